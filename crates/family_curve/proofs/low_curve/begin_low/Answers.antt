use Rattle.std.proofs.Common.{◌∷◌, inl, inr, [], List, length, sym, ap, subst, arith, rules}
use Rattle.hull.specs.declared.point.Point.{Point}
use Rattle.hull.specs.Curves.{StandFor}
use Rattle.hull.proofs.Public.{stand_self}
use Rattle.family_points.proofs.Public.{choice_range}
use Rattle.family_curve.specs.LowCurves.{low_point}
use Rattle.family_curve.proofs.low_curve.begin_low.Goals as goal

pub begin_with-requires : goal.begin_with-requires
begin_with-requires g c =
    let here = c.args.here.now in
    let range = choice_range here.family.now c.requires.here.valid here.site.0 c.args.choice.now c.requires.choice c.requires.here.site g.S.Score.ends g.met.S.Score.leaves_room here.depot.now c.requires.here.depot in
    record {
      cost = omega (arith, range.cost, c.low_spot-spot.ensures.cost, c.lowered.ensures.cost);
      ends = omega arith;
      hi = omega (arith, range.ends, range.hi, c.low_spot-spot.ensures.lo, c.lowered.ensures.lo);
    }

pub returns-clause-taken : goal.returns-clause-taken
returns-clause-taken g c =
    let p : List Point = low_point c.lowered.result ∷ [] in
    record {
      spot = low_point c.lowered.result;
      cost = omega (arith, c.lowered.ensures.cost, c.low_spot-spot.ensures.cost);
      lo = omega (arith, c.lowered.ensures.lo, c.low_spot-spot.ensures.lo);
      below = λ i. elim (c.lowered.ensures.lower (c.is_above_zero.ensures i)) [
        | inl cheaper ↦ inl (omega (arith, cheaper, c.low_spot-spot.ensures.cost))
        | inr lower ↦ inr (omega (arith, lower, c.low_spot-spot.ensures.lo))
      ];
      bare = search rules;
      stands = subst (StandFor p) (sym c.begin_with.ensures) (stand_self p);
    }

pub returns-clause-one : goal.returns-clause-one
returns-clause-one g c = ap length c.begin_with.ensures
