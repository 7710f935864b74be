-- Bounds on weights that begin with the stock 0, in numbers of 36 places. No promise of the crate rests on these
-- words.
use Rattle.std.specs.Prelude.{ℕ, suc, false, ◌≡◌, ◌+◌, ◌*◌, ◌^◌, ◌<◌, ◌≤◌, List}
use Rattle.fixed_interval.specs.Ends.{Ends}
use Rattle.series_bounds.specs.Profile.{ends_raised, ends_sum, is_wide, last_index, listed, pivot_at, remainder_at, weight_ends}
use Rattle.backorder_bounds.specs.Coarse.{coarse_unit}
use Rattle.backorder_bounds.specs.declared.sums.Rising.{Rising}
use Rattle.backorder_bounds.specs.declared.lead.Lead.{Lead}
use Rattle.backorder_bounds.specs.declared.sums.Start.{Start}

-- the weights to the last index
abbrev pub all_weights : ℕ → Ends → Ends → List Ends
all_weights f m d = listed (weight_ends f m d) (suc (last_index f m d))

-- their sum, with an upper bound on the weights past the last index
abbrev pub all_sum : ℕ → Ends → Ends → Ends
all_sum f m d = ends_raised (ends_sum (all_weights f m d)) (remainder_at f m d (last_index f m d))

-- the weights aren't wide, and the number is at most 1 over the upper end of the sum of all weights
pub record IsOverSum (f : ℕ) (m d : Ends) (inverse : ℕ) : Type 0 where
  pub narrow : is_wide f m d ≡ false
  pub most : inverse * (all_sum f m d).hi ≤ 2 ^ 72 * coarse_unit f

-- a ratio of weights is at most (first + step (x - 1)) / x at each index
pub record AreOver (f : ℕ) (m d : Ends) (parts : Rising) : Type 0 where
  pub places : 46 ≤ f
  pub positive : 0 < m.lo
  pub mean : m.lo ≤ m.hi
  pub excess : d.lo ≤ d.hi
  pub first : m.hi * 2 ^ f ≤ parts.first * coarse_unit f * (1 * 2 ^ f + d.lo)
  pub step : d.hi * 2 ^ f ≤ parts.step * coarse_unit f * (1 * 2 ^ f + d.lo)

-- a ratio of weights is at least (first + step (x - 1)) / x at each index
pub record AreUnder (f : ℕ) (m d : Ends) (parts : Rising) : Type 0 where
  pub first : parts.first * coarse_unit f * (1 * 2 ^ f + d.hi) ≤ m.lo * 2 ^ f
  pub step : parts.step * coarse_unit f * (1 * 2 ^ f + d.hi) ≤ d.lo * 2 ^ f

-- 1 / (1 + excess), at least an eighth
pub record IsInverse (f : ℕ) (d : Ends) (low high : ℕ) : Type 0 where
  pub under : low * coarse_unit f * (1 * 2 ^ f + d.hi) ≤ 2 ^ f * 2 ^ f
  pub over : 2 ^ f * 2 ^ f ≤ high * coarse_unit f * (1 * 2 ^ f + d.lo)
  pub ordered : low ≤ high
  pub most : high ≤ 2 ^ 36
  pub least : 2 ^ 36 ≤ 8 * low

-- the weights below k and the one at k, by their upper ends
pub record IsReached (f : ℕ) (m d : Ends) (k sum last : ℕ) : Type 0 where
  pub before : (ends_sum (listed (weight_ends f m d) k)).hi ≤ sum * coarse_unit f
  pub here : (weight_ends f m d k).hi ≤ last * coarse_unit f
  pub most : last ≤ 8 * 2 ^ 36
  pub tops : (x : ℕ) → x < k → (weight_ends f m d x).hi ≤ 8 * 2 ^ f

-- a pivot, and numbers between which the weight at 0 is
pub record IsStart (f : ℕ) (m d : Ends) (start : Start) : Type 0 where
  pub pivot : pivot_at f m d ≡ start.pivot
  pub low : start.low * coarse_unit f ≤ (weight_ends f m d 0).lo
  pub high : (weight_ends f m d 0).hi ≤ start.high * coarse_unit f

-- the weight at the stock 0, the ratios, and 1 over the sum of all weights, from below
pub record IsLead (f : ℕ) (m d : Ends) (lead : Lead) : Type 0 where
  pub positive : 0 < m.hi
  pub mean : m.lo ≤ m.hi
  pub excess : d.lo ≤ d.hi
  pub start : lead.start * coarse_unit f ≤ (weight_ends f m d 0).lo
  pub sum : IsOverSum f m d lead.inverse
  pub under : AreUnder f m d lead.under

-- sizes of these numbers
pub record IsSmallLead (lead : Lead) : Type 0 where
  pub start : lead.start ≤ 8 * 2 ^ 36
  pub inverse : lead.inverse ≤ 2 ^ 36
  pub first : lead.under.first ≤ 8 * 2 ^ 36
  pub step : lead.under.step ≤ 2 ^ 36
