use Rattle.std.proofs.Common.{◌*◌, ◌-◌, ◌≤◌, ltb-true, arith}
use Rattle.std.proofs.Math.Nat.{mul-le-mul_right}
use Rattle.hull.specs.Limits.{most_cost}
use Rattle.hull.proofs.Public.{among_read}
use Rattle.sum_walk.proofs.passed.is_under.Goals as goal

pub overflow_mul-result : goal.overflow_mul-result
overflow_mul-result c =
    let range = c.requires.ranges c.index-below-k.result (among_read c.args.below.now c.args.k c.index-below-k.result c.if-k-below.false c.index-below-k.is) in
    let dear : c.from-dearer.result ≤ most_cost = omega (arith, c.from-dearer.ensures, c.saturating_sub.ensures, range.cost) in
    let most : c.from-dearer.result * c.args.lane.fall ≤ most_cost * c.args.lane.fall = mul-le-mul_right c.args.lane.fall dear in
    omega (arith, most, c.requires.step.small)

pub returns : goal.returns
returns c = λ t. (
  c.index-below-k.result,
  among_read c.args.below.now c.args.k c.index-below-k.result c.if-k-below.false c.index-below-k.is,
  omega (arith, c.if-lo-point.false),
  grind (arith, ltb-true (c.from-dearer.result * c.args.lane.fall) ((c.args.place.lo - c.args.lo) * c.from.result) t, c.from-dearer.ensures, c.saturating_sub.ensures, c.from.ensures),
)
