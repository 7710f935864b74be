use Rattle.std.proofs.Common.{◌≡◌, ◌-◌, ◌*◌, ◌^◌, ◌≤◌, ℕ}
use Rattle.fixed_interval.specs.Ends.{Ends}
use Rattle.series_bounds.specs.Profile.{pivot_at, weight_ends}
use Rattle.backorder_bounds.specs.Coarse.{coarse_unit}
use Rattle.backorder_bounds.specs.Lead.{AreOver, AreUnder}
use Rattle.backorder_bounds.proofs.lead.walked_down.Given as goal

abbrev pub invariant-loop-k : goal.invariant-loop-k
invariant-loop-k l = record {
  low_room : l.low ≤ 8 * 2 ^ 36;
  high_room : l.high ≤ 8 * 2 ^ 36;
  ends : (f : ℕ) (m d : Ends) → pivot_at f m d ≡ l.pivot → AreOver f m d l.over → AreUnder f m d l.under
      → (l.low * coarse_unit f ≤ (weight_ends f m d (l.pivot - l.k)).lo) × ((weight_ends f m d (l.pivot - l.k)).hi ≤ l.high * coarse_unit f);
}
