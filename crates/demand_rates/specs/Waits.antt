-- The waits for shop units in their line unit's zero-stock mean at a site. No promise of the crate rests on these
-- definitions.
use Rattle.std.specs.Prelude.{◌≡◌, ℕ, zero, suc, ◌*◌, ◌<◌, ◌≤◌, List, [], length, get_or, sum_by}
use Rattle.spares_input.specs.Cases.{CaseRows, rate_at}
use Rattle.spares_input.specs.Limits.{most_parts}
use Rattle.fleet_model.specs.Rows.{shop_units}
use Rattle.fleet_model.specs.Units.{zero_stock_units_ij}

-- q_i0 T_i0, in 10^-6 days, at the depot; M_ij at base j
abbrev pub wait : CaseRows → ℕ → ℕ → ℕ → ℕ
wait c l zero i = (rate_at c i 0).share * (rate_at c i 0).repair_days
wait c l (suc j) i = zero_stock_units_ij c l i (suc j)

-- the sum over all shop units of the line unit l at site k
abbrev pub wait_sum : CaseRows → ℕ → ℕ → ℕ
wait_sum c l k = sum_by (wait c l k) (shop_units c l)

-- the largest wait for one shop unit
abbrev pub wait_most : ℕ → ℕ
wait_most zero = 10000000000
wait_most (suc j) = 3000000000000000000000000000

-- the sums of all parts at site k, within the largest sum of 2,000 parts
pub record AreWaits (c : CaseRows) (k : ℕ) (sums : List ℕ) : Type 0 where
  pub count : length sums ≡ length c.parts
  pub each : (l : ℕ) → l < length c.parts → get_or sums l 0 ≡ wait_sum c l k
  pub small : (l : ℕ) → get_or sums l 0 ≤ most_parts * wait_most k

-- the sums of all parts at each site
pub record AreAllWaits (c : CaseRows) (sums : List (List ℕ)) : Type 0 where
  pub count : length sums ≡ length c.sites
  pub each : (k : ℕ) → k < length c.sites → AreWaits c k (get_or sums k [])
