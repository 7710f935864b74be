use Rattle.std.proofs.Common.{◌≤◌, sym, subst}
use Rattle.family_points.specs.declared.bounds.Bounds.{Bounds}
use Rattle.family_points.specs.Points.{AreOrdered}
use Rattle.family_points.specs.Counts.{most_tables, tables_between}
use Rattle.family_points.proofs.Public.{box_of_nothing, tables_whole, whole_ordered}
use Rattle.test_parts.proofs.parts.part.Goals as goal

pub part_within-requires-clause-ordered : goal.part_within-requires-clause-ordered
part_within-requires-clause-ordered c =
    let whole = box_of_nothing c.args.case.now 0 c.in_ok-held.held c.in_ok-bounds.bounds c.in_ok-held.ensures.held c.in_ok-bounds.ensures in
    subst (λ (b : Bounds). AreOrdered c.args.case.now 0 b.held b.low b.high) (sym whole) (whole_ordered c.args.case.now 0)

pub part_within-requires-clause-few : goal.part_within-requires-clause-few
part_within-requires-clause-few c =
    let whole = box_of_nothing c.args.case.now 0 c.in_ok-held.held c.in_ok-bounds.bounds c.in_ok-held.ensures.held c.in_ok-bounds.ensures in
    subst (λ (b : Bounds). tables_between c.args.case.now 0 b.low b.high ≤ most_tables) (sym whole)
    (subst (λ n. n ≤ most_tables) (tables_whole c.args.case.now 0 c.invariant.ensures.valid) c.requires.few)
