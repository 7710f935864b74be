use Rattle.gap_rules.proofs.Counting.{Counted}
use Rattle.gap_rules.proofs.work.cover_tables.Given as goal

abbrev pub invariant-loop-node : goal.invariant-loop-node
invariant-loop-node l = Counted l.fn.case l.fn.line.0 l.fn.bounds l.nodes l.node-index l.waiting.items l.tables
