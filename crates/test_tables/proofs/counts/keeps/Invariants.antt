use Rattle.std.proofs.Common.{◌≡◌}
use Rattle.family_numbers.specs.Numbers.{numbers_of}
use Rattle.test_tables.proofs.counts.keeps.Given as goal

abbrev pub invariant-loop-n : goal.invariant-loop-n
invariant-loop-n l = l.evaluator.numbers ≡ numbers_of 48 l.fn.case 0
