use Rattle.std.proofs.Common.{◌≡◌}
use Rattle.test_numbers.proofs.backorder_bounds_tests.are_near.Given as goal

abbrev pub invariant-loop-s : goal.invariant-loop-s
invariant-loop-s g l = l.walk.stock ≡ l.s
