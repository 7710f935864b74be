use Rattle.std.proofs.Common.{◌≡◌, ◌==◌, ◌<◌, length, arith, vec_len}
use Rattle.std.proofs.lemmas.Bool.Decides.{nat_tests}
use Rattle.gap_rules.proofs.Counting.{counted_start, leaf_ordered, counted_gap, counted_inner, counted_leaf, counted_end, counted_left}
use Rattle.gap_rules.proofs.work.cover_tables.Goals as goal
use Rattle.gap_rules.proofs.work.cover_tables.Goals.{in-Inner, in-Leaf}

pub loop-node-init : goal.loop-node-init
loop-node-init c = counted_start c.args.case.now c.args.line.0 c.args.bounds c.args.nodes.now _ _ c.new-waiting.ensures.items c.in_ok-push.ensures.items c.requires.ordered

pub leaf_tables-requires-clause-ordered : goal.leaf_tables-requires-clause-ordered
leaf_tables-requires-clause-ordered c = leaf_ordered c.args.case.now c.args.line.0 _ _ c.in_ok-read_node.field-0 c.in-Leaf.leaf c.loop-node.invariant.ordered c.in_ok-read_node.ensures.ordered c.in-Leaf.is

pub returns-in-Gap : goal.returns-in-Gap
returns-in-Gap c =
    counted_gap c.args.case.now c.args.line.0 c.args.bounds c.args.nodes.now c.loop-node.node-index c.loop-node.waiting.items c.read_node.new.waiting.items c.in_ok-read_node.field-0 c.loop-node.tables c.loop-node.invariant
    (omega (arith, c.loop-node-test.true)) c.in_ok-read_node.ensures.reads c.in-Gap.is

pub loop-node-preserved : goal.loop-node-preserved
loop-node-preserved c =
    let inside : c.loop-node.node-index < length c.args.nodes.now = omega (arith, c.loop-node-test.true) in
    elim c.match-branch-3.branch [
      | in-Inner w ↦ counted_inner c.args.case.now c.args.line.0 c.args.bounds c.args.nodes.now c.loop-node.node-index c.loop-node.waiting.items c.read_node.new.waiting.items c.in_ok-read_node.field-0 c.loop-node.tables c.match-branch-3.tables
          c.loop-node.invariant inside c.in_ok-read_node.ensures.reads c.in_ok-read_node.ensures.ordered w.in-Inner.is w.tables-is
      | in-Leaf w ↦ counted_leaf c.args.case.now c.args.line.0 c.args.bounds c.args.nodes.now c.loop-node.node-index c.loop-node.waiting.items c.read_node.new.waiting.items c.in_ok-read_node.field-0 w.in-Leaf.leaf c.loop-node.tables
          w.leaf_tables.result w.saturating_add-tables.result c.match-branch-3.tables c.loop-node.invariant inside c.in_ok-read_node.ensures.reads c.in_ok-read_node.ensures.ordered w.in-Leaf.is w.tables-is w.leaf_tables.ensures w.saturating_add-tables.ensures
    ]

pub returns-then-is_empty : goal.returns-then-is_empty
returns-then-is_empty c =
    let l : vec_len c.loop-node.waiting ≡ length c.loop-node.waiting.items = c.loop-node.waiting.ok.0 in
    let e : c.is_empty.result ≡ (vec_len c.loop-node.waiting == 0) = c.is_empty.ensures in
    let none : vec_len c.loop-node.waiting ≡ 0 = grind (arith, nat_tests, c.if-is_empty.true, e) in
    counted_end c.args.case.now c.args.line.0 c.args.bounds c.args.nodes.now c.loop-node.node-index c.loop-node.waiting.items c.loop-node.tables c.loop-node.invariant (omega (arith, c.loop-node-test.false)) (omega (arith, l, none))

pub returns : goal.returns
returns c =
    let l : vec_len c.loop-node.waiting ≡ length c.loop-node.waiting.items = c.loop-node.waiting.ok.0 in
    let e : c.is_empty.result ≡ (vec_len c.loop-node.waiting == 0) = c.is_empty.ensures in
    let some : 0 < vec_len c.loop-node.waiting = grind (arith, nat_tests, c.if-is_empty.false, e) in
    counted_left c.args.case.now c.args.line.0 c.args.bounds c.args.nodes.now c.loop-node.node-index c.loop-node.waiting.items c.loop-node.tables c.loop-node.invariant (omega (arith, c.loop-node-test.false)) (omega (arith, l, some))
