use Rattle.std.proofs.Common.{◌≡◌, ◌<◌, ◌≤◌, ℕ, get_or}
use Rattle.exact_ratio.proofs.decimal.has_late_digit.Given as goal

abbrev pub invariant-loop-i : goal.invariant-loop-i
invariant-loop-i l = (k : ℕ) → l.places ≤ k → k < l.i → get_or l.fraction k 0 ≡ 48
