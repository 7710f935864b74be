use Rattle.std.proofs.Common.{◌≡◌, None}
use Rattle.spares_input.specs.First.{first}
use Rattle.gap_rules.specs.Refusals.{below_held}
use Rattle.gap_rules.proofs.stocks.below_held.Given as goal

abbrev pub invariant-loop-i : goal.invariant-loop-i
invariant-loop-i l = first (below_held l.fn.case l.fn.held l.fn.stocks) l.i ≡ None
