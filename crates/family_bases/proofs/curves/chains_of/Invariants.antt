use Rattle.std.proofs.Common.{◌≡◌, length}
use Rattle.family_bases.proofs.curves.chains_of.Given as goal

abbrev pub invariant-loop-place : goal.invariant-loop-place
invariant-loop-place l = length l.chains.items ≡ l.place
