use Rattle.std.proofs.Common.{◌≡◌, sym, subst}
use Rattle.std.specs.Prelude.{IfOk}
use Rattle.gap_rules.specs.Boxes.{IsOrdered}
use Rattle.gap_rules.proofs.Families.{box_ordered, own_count}
use Rattle.gap_rules.proofs.Formed.{has_cover}
use Rattle.gap_rules.proofs.covers.family_work.Goals as goal

pub nodes_of-nodes-requires-clause-covers : goal.nodes_of-nodes-requires-clause-covers
nodes_of-nodes-requires-clause-covers c = has_cover c.args.cert.now c.args.family c.requires.formed c.requires.family

pub cover_tables-requires-clause-ordered : goal.cover_tables-requires-clause-ordered
cover_tables-requires-clause-ordered c =
    subst (λ z. IsOrdered c.args.cert.now.case c.args.line.0 z) (sym c.in_ok-bounds.ensures) (box_ordered c.args.cert.now.case c.args.line.0 c.args.held.now c.requires.is_line.is_part c.requires.held)

pub returns : goal.returns
returns c =
    subst (λ z. IfOk c.cover_tables.result (λ work. work ≡ z))
    (own_count c.args.cert.now c.args.held.now c.args.family c.args.line.0 c.nodes_of-nodes.result.now c.in_ok-bounds.bounds c.requires.line c.nodes_of-nodes.ensures c.in_ok-bounds.ensures)
    c.cover_tables.ensures
