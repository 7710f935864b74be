use Rattle.std.proofs.Common.{◌≤◌, length, sym, ap, ◌∙◌, subst, get_or, Some, arith}
use Rattle.std.specs.Option.{option_map}
use Rattle.gap_rules.specs.Boxes.{IsOrdered}
use Rattle.gap_rules.specs.Refusals.{too_low}
use Rattle.gap_rules.proofs.Public.{box_ordered, own_tree, own_work, own_low, has_cover, has_floors, few_nodes}
use Rattle.gap_checker.proofs.floors.family_low.Goals as goal

pub nodes_of-nodes-requires-clause-covers : goal.nodes_of-nodes-requires-clause-covers
nodes_of-nodes-requires-clause-covers g c = has_cover c.args.cert.now c.args.family c.requires.formed c.requires.family

pub bounds-as_slice-family : goal.bounds-as_slice-family
bounds-as_slice-family g c = (let e = ap length c.as_slice.ensures in let n = has_floors c.args.cert.now c.requires.formed in let b = c.requires.family in omega (arith, e, n, b))

pub low_leaf-requires-clause-few : goal.low_leaf-requires-clause-few
low_leaf-requires-clause-few g c = subst (λ z. length z ≤ 100000) (sym c.nodes_of-nodes.ensures) (few_nodes c.args.cert.now c.args.family c.requires.formed c.requires.family)

pub low_leaf-requires-clause-ordered : goal.low_leaf-requires-clause-ordered
low_leaf-requires-clause-ordered g c =
    rw c.of-rated.ensures (subst (λ z. IsOrdered c.args.cert.now.case c.args.line.0 z) (sym c.in_ok-bounds.ensures) (box_ordered c.args.cert.now.case c.args.line.0 c.args.held.now c.requires.is_line.is_part c.requires.held))

pub low_leaf-requires-clause-tree : goal.low_leaf-requires-clause-tree
low_leaf-requires-clause-tree g c =
    own_tree c.args.cert.now c.args.held.now c.args.family c.args.line.0 c.nodes_of-nodes.result.now c.in_ok-bounds.bounds c.requires.line c.nodes_of-nodes.ensures c.in_ok-bounds.ensures c.requires.tree

pub low_leaf-requires-clause-work : goal.low_leaf-requires-clause-work
low_leaf-requires-clause-work g c =
    rw c.of-rated.ensures (own_work c.args.cert.now c.args.held.now c.args.family c.args.line.0 c.nodes_of-nodes.result.now c.in_ok-bounds.bounds c.requires.line c.nodes_of-nodes.ensures c.in_ok-bounds.ensures c.requires.work)

pub returns-in-Some : goal.returns-in-Some
returns-in-Some g c =
    ap (λ z. Some z) c.too_low.ensures
    ∙ sym (ap (λ z. option_map (λ x. too_low c.args.cert.now.format c.args.family x.0 (get_or c.as_slice.result.now c.args.family 0) x.1) z) c.in-Some.is)
    ∙ own_low c.args.cert.now c.args.held.now c.args.family c.args.line.0 c.nodes_of-nodes.result.now c.in_ok-bounds.bounds c.requires.line c.nodes_of-nodes.ensures c.in_ok-bounds.ensures
    g.S.Score.ends (get_or c.as_slice.result.now c.args.family 0) (ap (λ z. get_or z c.args.family 0) c.as_slice.ensures) c.in_ok-low.low (rw c.of-rated.ensures at c.in_ok-low.ensures)

pub returns : goal.returns
returns g c =
    sym (ap (λ z. option_map (λ x. too_low c.args.cert.now.format c.args.family x.0 (get_or c.as_slice.result.now c.args.family 0) x.1) z) c.in-None.is)
    ∙ own_low c.args.cert.now c.args.held.now c.args.family c.args.line.0 c.nodes_of-nodes.result.now c.in_ok-bounds.bounds c.requires.line c.nodes_of-nodes.ensures c.in_ok-bounds.ensures
    g.S.Score.ends (get_or c.as_slice.result.now c.args.family 0) (ap (λ z. get_or z c.args.family 0) c.as_slice.ensures) c.in_ok-low.low (rw c.of-rated.ensures at c.in_ok-low.ensures)
