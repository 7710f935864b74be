use Rattle.std.proofs.Common.{◌<◌, ◌-◌, ◌*◌, ◌^◌, arith, inr, subst}
use Rattle.list_laws.proofs.Public.{ceil_most}
use Rattle.fixed_interval.proofs.Public.{unit_most}
use Rattle.series_bounds.proofs.Bounds.{many_gaps}
use Rattle.series_bounds.proofs.Ranges.{product_room}
use Rattle.series_bounds.proofs.rest_at.Goals as goal
use Rattle.series_bounds.proofs.rest_at.Goals.{else-product-gap-via-then-product-gap+else-x-lt-LAST_END, else-product-gap-via-else-product-gap}

pub overflow_mul-product : goal.overflow_mul-product
overflow_mul-product g c =
    let r : c.args.bound < 2 ^ g.row.F = omega (arith, c.unit-unit.ensures) in
    record { fits = omega (arith, product_room (2 ^ g.row.F) c.args.top c.args.bound (unit_most g.row.F c.requires.scale.1) c.requires.top r) }

pub returns-then-x-lt-LAST_END-clause-goes_on : goal.returns-then-x-lt-LAST_END-clause-goes_on
returns-then-x-lt-LAST_END-clause-goes_on g c =
    let k : 256 * (2 ^ g.row.F - c.args.bound) < c.args.top * c.args.bound =
    subst (λ z. 256 * (z - c.args.bound) < c.args.top * c.args.bound) c.unit-unit.ensures c.if-product-gap.true in
    inr (c.if-x-lt-LAST_END.true, many_gaps (c.args.top * c.args.bound) (2 ^ g.row.F - c.args.bound) 256 (omega (arith, c.unit-unit.ensures)) k)

pub returns-clause-small : goal.returns-clause-small
returns-clause-small g c = λ l. elim c.else-product-gap.branch [
  | else-product-gap-via-then-product-gap+else-x-lt-LAST_END w ↦ absurd (omega (arith, w.if-x-lt-LAST_END.false))
  | else-product-gap-via-else-product-gap w ↦
      rw c.quotient_few.ensures (ceil_most (c.args.top * c.args.bound) (c.unit-unit.result - c.args.bound) 256 (omega arith) w.if-product-gap.false)
]
