use Rattle.std.proofs.Common.{length, ap, arith}
use Rattle.family_points.proofs.Public.{choice_range}
use Rattle.family_curve.proofs.low_curve.take_low.Goals as goal

pub take-requires-clause-order : goal.take-requires-clause-order
take-requires-clause-order g c = λ v m. (let order = c.requires.order v m in omega (arith, order, c.low_spot-spot.ensures.cost, c.lowered.ensures.cost, c.requires.choice.cost))

pub take-requires-clause-range : goal.take-requires-clause-range
take-requires-clause-range g c =
    let here = c.args.here.now in
    let range = choice_range here.family.now c.requires.here.valid here.site.0 c.args.choice.now c.requires.choice c.requires.here.site g.S.Score.ends g.met.S.Score.leaves_room here.depot.now c.requires.here.depot in
    record {
      cost = omega (arith, range.cost, c.low_spot-spot.ensures.cost, c.lowered.ensures.cost);
      ends = omega arith;
      hi = omega (arith, range.ends, range.hi, c.low_spot-spot.ensures.lo, c.lowered.ensures.lo);
    }

pub take-requires-clause-width : goal.take-requires-clause-width
take-requires-clause-width g c = λ v m. ap length (c.requires.bare v m)
