use Rattle.gap_rules.proofs.Adding.{Added}
use Rattle.gap_rules.proofs.cost.added_cost.Given as goal

abbrev pub invariant-loop-i : goal.invariant-loop-i
invariant-loop-i l = Added l.fn.case l.fn.line.0 l.fn.held l.fn.vector l.i l.cost
