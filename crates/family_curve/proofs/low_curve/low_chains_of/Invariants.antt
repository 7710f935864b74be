use Rattle.std.proofs.Common.{◌≡◌, length}
use Rattle.family_curve.proofs.low_curve.low_chains_of.Given as goal

abbrev pub invariant-loop-place : goal.invariant-loop-place
invariant-loop-place l = length l.chains.items ≡ l.place
