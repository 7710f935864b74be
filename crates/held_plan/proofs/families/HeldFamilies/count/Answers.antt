use Rattle.std.proofs.Common.{arith}
use Rattle.fleet_model.proofs.Public.{few_lines}
use Rattle.family_items.proofs.Public.{lines_count}
use Rattle.held_plan.proofs.families.HeldFamilies.count.Goals as goal

pub overflow_cast-result : goal.overflow_cast-result
overflow_cast-result g c =
    record { fits = omega (arith, few_lines c.self.inside.case.now c.self.invariant.valid, lines_count c.self.inside.case.now c.line_units-lines.result.now c.line_units-lines.ensures) }

pub returns-clause-few : goal.returns-clause-few
returns-clause-few g c = omega (arith, few_lines c.self.inside.case.now c.self.invariant.valid, lines_count c.self.inside.case.now c.line_units-lines.result.now c.line_units-lines.ensures)
