use Rattle.std.proofs.Common.{◌≡◌, map, take}
use Rattle.spares_input.specs.declared.rows.PartId.{PartId}
use Rattle.family_points.specs.Vectors.{box_from}
use Rattle.held_plan.proofs.sample.bounds_of.Given as goal

abbrev pub invariant-loop-k : goal.invariant-loop-k
invariant-loop-k l = l.bounds.items ≡ map (λ (p : PartId). box_from l.case p.0 l.held.list) (take l.k l.lines)
