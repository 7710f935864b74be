use Rattle.std.proofs.Common.{All}
use Rattle.spares_input.specs.Cases.{IsRateOf}
use Rattle.test_texts.proofs.case_lines_tests.rates_of.Given as goal

abbrev pub invariant-loop-i : goal.invariant-loop-i
invariant-loop-i l = All (IsRateOf l.frame) l.rates.items
