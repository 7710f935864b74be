use Rattle.std.proofs.Common.{◌*◌, ◌≤◌, sym, subst}
use Rattle.curve_parts.specs.Beyond.{IsKnownPart}
use Rattle.family_points.specs.Inputs.{FamilyBox, box_points, vector_count, vertex_count}
use Rattle.family_bases.proofs.Public.{few_vertices}
use Rattle.family_parts.proofs.Whole.{part_between}
use Rattle.family_parts.proofs.part_within.Goals as goal

pub family_part-requires-clause-room : goal.family_part-requires-clause-room
family_part-requires-clause-room g c =
    let b = c.args.bounds.now in
    subst (λ (x : FamilyBox). vector_count x 0 * vertex_count x ≤ 65000000) (sym c.of-family.ensures)
    (few_vertices c.args.case.now c.args.line.0 b.held b.low b.high c.invariant.ensures.valid c.requires.line c.requires.ordered c.requires.few)

pub returns-clause-stocks : goal.returns-clause-stocks
returns-clause-stocks g c =
    let b = c.args.bounds.now in
    let is = subst (λ (x : FamilyBox). IsKnownPart c.args.low c.args.high (box_points g.S.Score.ends x) c.in_ok-part.part c.in_ok-part.beyond) c.of-family.ensures c.in_ok-part.ensures in
    part_between c.args.case.now c.args.line.0 g.S.Score.ends b.held b.low b.high c.args.low c.args.high c.in_ok-part.part c.requires.ordered.low_least is.is
