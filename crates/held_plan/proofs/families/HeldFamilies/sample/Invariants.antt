use Rattle.std.proofs.Common.{◌≤◌, length}
use Rattle.std.specs.List.{All}
use Rattle.spares_input.specs.declared.rows.PartId.{PartId}
use Rattle.family_items.specs.Inputs.{IsLine}
use Rattle.held_plan.proofs.families.HeldFamilies.sample.Given as goal

abbrev pub invariant-loop-family : goal.invariant-loop-family
invariant-loop-family g l = record {
  lines : All (λ (p : PartId). IsLine l.self.case p.0) l.lines.items;
  few : length l.lines.items ≤ l.family;
}
