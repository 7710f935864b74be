-- The rates of a case as a list.
use Rattle.std.specs.Prelude.{ℕ, ◌<◌, List, length, get_or}
use Rattle.spares_input.specs.Pairs.{pair_place}
use Rattle.demand_rates.specs.declared.kinds.PairRates.{PairRates}

-- rates as contracts see them: the number of sites, and the rates of each pair, by part and then by site
pub record RateList : Type 0 where
  pub sites : ℕ
  pub pairs : List PairRates

-- the value of a look-up past the last pair: zeros
abbrev pub no_rates : PairRates
no_rates = record {
  demand = record { num = 0; den = 1 };
  share = record { num = 0; den = 1 };
  direct = 0;
  zero_stock = 0;
}

-- the rates of part p at site k
abbrev pub rates_at : RateList → ℕ → ℕ → PairRates
rates_at r p k = get_or r.pairs (pair_place r.sites p k) no_rates

-- a pair has rates in the list
pub record HasRates (r : RateList) (p k : ℕ) : Type 0 where
  pub site : k < r.sites
  pub within : pair_place r.sites p k < length r.pairs
