use Rattle.std.proofs.Common.{◌≡◌, None}
use Rattle.spares_input.specs.First.{first}
use Rattle.gap_rules.specs.Refusals.{over_limit}
use Rattle.gap_rules.proofs.stocks.over_limit.Given as goal

abbrev pub invariant-loop-i : goal.invariant-loop-i
invariant-loop-i l = first (over_limit l.fn.case l.fn.stocks) l.i ≡ None
