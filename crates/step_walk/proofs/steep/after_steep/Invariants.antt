use Rattle.std.proofs.Common.{ℕ, ◌+◌, ◌-◌, ◌*◌, ◌<◌, ◌≤◌, length}
use Rattle.hull.specs.Curves.{IsShape}
use Rattle.step_walk.specs.Steep.{fall_at, rise_at}
use Rattle.step_walk.proofs.steep.after_steep.Given as goal

abbrev pub invariant-halves : goal.invariant-halves
invariant-halves l = record {
  shape : IsShape l.curve;
  order : l.low ≤ l.high;
  below : l.high < length l.curve;
  steep : (i : ℕ) → i < l.low → l.price * rise_at l.curve i < fall_at l.curve i;
  flat : (i : ℕ) → l.high ≤ i → i + 1 < length l.curve → fall_at l.curve i ≤ l.price * rise_at l.curve i;
}

abbrev pub decreases-halves : goal.decreases-halves
decreases-halves l = l.high - l.low
