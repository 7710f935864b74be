use Rattle.std.proofs.Common.{◌<◌, ℕ}
use Rattle.exact_ratio.specs.Decimal.{MayStand}
use Rattle.exact_ratio.proofs.decimal.find_bad.Given as goal

abbrev pub invariant-loop-i : goal.invariant-loop-i
invariant-loop-i l = (k : ℕ) → k < l.i → MayStand l.text k
