use Rattle.std.proofs.Common.{◌≡◌, ℕ, ◌^◌, ◌<◌, ◌≤◌, length, slice_index}
use Rattle.step_walk.specs.Prefix.{IsRangedChain, curve_at}
use Rattle.step_walk.proofs.walk.first_picks.Given as goal

abbrev pub invariant-loop-f : goal.invariant-loop-f
invariant-loop-f l = record {
  count : length l.picks.items ≡ l.f;
  zero : (g : ℕ) → slice_index l.picks.items g ≡ 0;
  short : (g : ℕ) → g < l.f → length (curve_at l.curves g) ≤ 2 ^ 31;
  shapes : (g : ℕ) → g < l.f → IsRangedChain (curve_at l.curves g);
}
