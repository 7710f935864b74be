use Rattle.std.specs.Prelude.{◌≡◌, ℕ, ◌<◌, [], length, map, get_or}
use Rattle.demand_rates.specs.Waits.{AreWaits}
use Rattle.demand_rates.proofs.waits.all_waits.Given as goal

abbrev pub invariant-loop-k : goal.invariant-loop-k
invariant-loop-k l = record {
  count : length l.waits.items ≡ l.k;
  each : (k : ℕ) → k < l.k → AreWaits l.case k (get_or (map (λ w. w.items) l.waits.items) k []);
}
