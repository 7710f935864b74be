use Rattle.std.proofs.Common.{◌≡◌, ℕ, ◌<◌, length, slice_index}
use Rattle.step_walk.specs.Prefix.{curve_at}
use Rattle.step_walk.specs.Steep.{IsAfterSteep}
use Rattle.step_walk.proofs.steep.all_after_steep.Given as goal

abbrev pub invariant-loop-f : goal.invariant-loop-f
invariant-loop-f l = record {
  count : length l.picks.items ≡ l.f;
  each : (g : ℕ) → g < l.f → IsAfterSteep l.price (curve_at l.curves g) (slice_index l.picks.items g);
}
