-- The rates of a case: demand, share, direct pipeline and zero-stock mean of each pair, as whole numbers.
use Rattle.std.specs.Prelude.{◌≡◌, ℕ, zero, suc, ◌<◌, ◌≤◌, ◌^◌, List, length, map, Option, None, Result}
use Rattle.std.specs.List.{range_with_len}
use Rattle.exact_ratio.specs.declared.ratio.Ratio.{Ratio}
use Rattle.exact_model.specs.Fraction.{Fraction, whole, ◌≈◌, ◌/ℚ◌}
use Rattle.spares_input.specs.First.{unless}
use Rattle.spares_input.specs.Frames.{line_of}
use Rattle.spares_input.specs.Pairs.{part_of_place, site_of_place}
use Rattle.spares_input.specs.Cases.{CaseRows, frame_rows, pair_count}
use Rattle.fleet_model.specs.Pairs.{demand, share, direct, zero_stock}
use Rattle.fleet_model.specs.Units.{demand_of, scale_of, top_of, bottom_of, direct_of, zero_stock_of, in_pipeline}
use Rattle.demand_rates.specs.Limits.{rate_fault_of, IsAccepted}
use Rattle.demand_rates.specs.declared.fault.RateFault.{RateFault}
use Rattle.demand_rates.specs.declared.kinds.PairRates.{PairRates}
use Rattle.demand_rates.specs.RateLists.{RateList, rates_at, HasRates}

-- top / bottom, 0/1 if bottom is 0
abbrev pub share_ratio : ℕ → ℕ → Ratio
share_ratio top zero = record { num = 0; den = 1 }
share_ratio top (suc n) = record { num = top; den = suc n }

-- the rates of part p, whose line unit is o, at site k
abbrev pub rates_of_pair : CaseRows → Option ℕ → ℕ → ℕ → PairRates
rates_of_pair c o p k = record {
  demand = record { num = demand_of c o p k; den = scale_of o p k };
  share = share_ratio (top_of c o p k) (bottom_of c o p k);
  direct = direct_of c o p k;
  zero_stock = zero_stock_of c o p k;
}

-- the rates of part p at site k
abbrev pub pair_rates : CaseRows → ℕ → ℕ → PairRates
pair_rates c p k = rates_of_pair c (line_of c.parts p) p k

-- the rates of the pair at place i
abbrev pub place_rates : CaseRows → ℕ → PairRates
place_rates c i = pair_rates c (part_of_place (length c.sites) i).0 (site_of_place (length c.sites) i).0

-- the rates of all pairs, by part and then by site
abbrev pub all_rates : CaseRows → List PairRates
all_rates c = map (place_rates c) (range_with_len 0 (pair_count (frame_rows c)))

-- the rates of a case, or the first rule that they break
abbrev pub rates_of : CaseRows → Result RateList RateFault
rates_of c = unless (rate_fault_of c) (record { sites = length c.sites; pairs = all_rates c })

-- the value of a ratio
abbrev pub value : Ratio → Fraction
value r = whole r.num /ℚ whole r.den

-- the rates of a pair are the model's, and within their limits
pub record ArePairRates (c : CaseRows) (p k : ℕ) (r : PairRates) : Type 0 where
  pub units : r ≡ pair_rates c p k
  pub demand_is : value r.demand ≈ demand c p k
  pub share_is : value r.share ≈ share c p k
  pub direct_is : in_pipeline r.direct ≈ direct c p k
  pub zero_stock_is : in_pipeline r.zero_stock ≈ zero_stock c p k
  pub accepted : IsAccepted r.demand.num r.direct r.zero_stock
  pub share_most : r.share.num ≤ r.share.den
  pub some_share : 0 < r.share.den
  pub share_small : r.share.den ≤ 2 ^ 75

-- the rates of every pair of the case, none of which is refused
pub record AreRatesOf (c : CaseRows) (r : RateList) : Type 0 where
  pub no_fault : rate_fault_of c ≡ None
  pub sites : r.sites ≡ length c.sites
  pub has : (p k : ℕ) → p < length c.parts → k < length c.sites → HasRates r p k
  pub pairs : (p k : ℕ) → p < length c.parts → k < length c.sites → ArePairRates c p k (rates_at r p k)

-- a case together with its rates
pub record RatedCase : Type 0 where
  pub case : CaseRows
  pub rates : RateList
