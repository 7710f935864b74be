use Rattle.std.proofs.Common.{◌≤◌, ◌-◌, ◌/◌, ◌^◌, arith}
use Rattle.std.proofs.Math.Nat.{div-le_of_le-mul}
use Rattle.fixed_interval.proofs.Public.{unit_most}
use Rattle.backorder_bounds.proofs.Coarse.{places}
use Rattle.backorder_bounds.proofs.scale.Coarse.of.Goals as goal

pub overflow_cast-result : goal.overflow_cast-result
overflow_cast-result g c = record { fits = omega (arith, c.lo.ensures.end, c.lo.ensures.valid.ordered, c.requires.limit, unit_most g.row.F c.lo.ensures.valid.most_scale) }

pub overflow_cast-result-3 : goal.overflow_cast-result-3
overflow_cast-result-3 g c = record { fits = omega (arith, c.hi.ensures.end, c.requires.limit, unit_most g.row.F c.lo.ensures.valid.most_scale) }

pub overflow_add-result : goal.overflow_add-result
overflow_add-result g c =
    let a : c.hi.result / 2 ^ (g.row.F - 36) ≤ 2 ^ 44 = div-le_of_le-mul (2 ^ (g.row.F - 36)) (omega (arith, c.hi.ensures.end, c.requires.limit, places g.row.F c.requires.places)) in
    record { fits = omega (arith, a) }

pub returns-clause-most : goal.returns-clause-most
returns-clause-most g c =
    let a : c.hi.result / 2 ^ (g.row.F - 36) ≤ 2 ^ 44 = div-le_of_le-mul (2 ^ (g.row.F - 36)) (omega (arith, c.hi.ensures.end, c.requires.limit, places g.row.F c.requires.places)) in
    omega (arith, a)
