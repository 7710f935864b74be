-- The values that a walk carries from stock to stock. No promise of the crate rests on these words.
use Rattle.std.specs.Prelude.{ℕ, ◌≡◌, ◌+◌, ◌-◌, ◌*◌, ◌^◌, ◌<◌, ◌≤◌, ◌⊎◌}
use Rattle.fixed_interval.specs.Ends.{Ends, IsWithinLimit}
use Rattle.series_bounds.specs.Profile.{weight_ends}
use Rattle.moment_table.specs.Profile.{below_ends, ebo_ends, excess_ends}
use Rattle.backorder_bounds.specs.Coarse.{coarse_unit}
use Rattle.backorder_bounds.specs.declared.falling.Falling.{Falling}
use Rattle.backorder_bounds.specs.declared.lead.Lead.{Lead}
use Rattle.backorder_bounds.specs.Lead.{IsLead, IsSmallLead, all_sum, all_weights}

-- at the stock s: the chance of s or more from above, the weight from below, and s steps of the ratios
pub record AreChances (f : ℕ) (m v : Ends) (lead : Lead) (s : ℕ) (falling : Falling) : Type 0 where
  pub tail : 2 ^ f ≤ falling.tail
      + (below_ends f (all_weights f m (excess_ends f m v)) (all_sum f m (excess_ends f m v)) s).lo
  pub weight : falling.weight * coarse_unit f ≤ (weight_ends f m (excess_ends f m v) s).lo
  pub above : falling.above ≡ lead.under.first + lead.under.step * s

-- the backorders from below, and the chances while some are left
pub record IsFallen (f : ℕ) (m v : Ends) (lead : Lead) (s : ℕ) (falling : Falling) : Type 0 where
  pub low : falling.low ≤ (ebo_ends f m (all_weights f m (excess_ends f m v)) (all_sum f m (excess_ends f m v)) s).lo
  pub chances : 0 < falling.low → AreChances f m v lead s falling

-- the backorders by the mean alone: each unit in stock takes off one
pub record IsFlat (f : ℕ) (m : Ends) (lead : Lead) (s : ℕ) (falling : Falling) : Type 0 where
  pub inverse : lead.inverse ≡ 0
  pub tail : falling.tail ≡ 2 ^ f
  pub low : falling.low ≡ m.lo - s * 2 ^ f

-- the backorders by the chances
pub record IsLed (f : ℕ) (m v : Ends) (lead : Lead) (s : ℕ) (falling : Falling) : Type 0 where
  pub places : 46 ≤ f
  pub weights : IsLead f m (excess_ends f m v) lead
  pub fallen : IsFallen f m v lead s falling

-- sizes on which the step from the stock s rests
pub record IsSmall (s : ℕ) (falling : Falling) : Type 0 where
  pub weight : falling.weight ≤ 8 * 2 ^ 36
  pub above : falling.above ≤ (8 + s) * 2 ^ 36

-- a walk at the stock s
pub record IsWalk (f : ℕ) (m v : Ends) (s : ℕ) (lead : Lead) (falling : Falling) : Type 0 where
  pub scale : f ≤ 52
  pub mean_top : IsWithinLimit f m
  pub variance_top : IsWithinLimit f v
  pub ordered : m.lo ≤ m.hi
  pub stock : s ≤ 63
  pub small_lead : IsSmallLead lead
  pub small : IsSmall s falling
  pub bounds : IsFlat f m lead s falling ⊎ IsLed f m v lead s falling
