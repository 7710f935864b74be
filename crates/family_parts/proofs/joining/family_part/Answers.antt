use Rattle.std.proofs.Common.{◌*◌, ◌≤◌, IfOk, sym, subst}
use Rattle.curve_parts.specs.Beyond.{IsKnownPart}
use Rattle.family_points.specs.Inputs.{FamilyBox, box_points, vector_count, vertex_count}
use Rattle.family_parts.proofs.joining.family_part.Goals as goal

pub part_of-requires-clause-room : goal.part_of-requires-clause-room
part_of-requires-clause-room g c = subst (λ (x : FamilyBox). vector_count x 0 * vertex_count x ≤ 65000000) (sym c.in_ok-sources.ensures.family) c.requires.room

pub returns : goal.returns
returns g c =
    subst (λ (x : FamilyBox). IfOk c.part_of.result (λ made. IsKnownPart c.args.low c.args.high (box_points g.S.Score.ends x) made.0 made.1))
    c.in_ok-sources.ensures.family c.part_of.ensures
