use Rattle.spares_input.specs.Edits.{with_rate}
use Rattle.family_points.proofs.Local.{changed, local}
use Rattle.family_points.proofs.changes_are_local.Goals as goal

pub returns : goal.returns
returns c = λ case r l valid line row away. local case (with_rate case r) l valid line (changed case r l valid line row away)
