-- The arguments of the calls, and the conditions of the steps between them.
use Rattle.std.specs.Prelude.{◌≡◌, true, ℕ, ◌*◌, ◌^◌, ◌<◌, ◌≤◌, ◌⊎◌, List, length, Some}
use Rattle.fixed_interval.specs.Ends.{IsWithinLimit}
use Rattle.moment_table.specs.Inputs.{CanTable}
use Rattle.depot_pipeline.specs.declared.Moments.{Moments}
use Rattle.spares_input.specs.Limits.{most_stock}
use Rattle.spares_input.specs.Rows.{is_line}
use Rattle.spares_input.specs.Frames.{part_at, line_of}
use Rattle.spares_input.specs.Cases.{CaseRows, IsCase}
use Rattle.spares_input.specs.Stocks.{AreStocksOf, StockList}
use Rattle.fleet_model.specs.Fleet.{IsAllocation}
use Rattle.demand_rates.specs.RateLists.{RateList}
use Rattle.demand_rates.specs.Rates.{pair_rates, ArePairRates, AreRatesOf}
use Rattle.family_items.specs.declared.pipeline.Pipeline.{Pipeline}

-- a case, rates and stocks
pub record InputRows : Type 0 where
  pub case : CaseRows
  pub rates : RateList
  pub stocks : StockList

-- the rates are those of the case, and the stocks are of it and within its limits
pub record AreInputs (x : InputRows) : Type 0 where
  pub valid : IsCase x.case
  pub are_rates : AreRatesOf x.case x.rates
  pub are_stocks : AreStocksOf x.case x.stocks

-- then the rates of each pair are within their limits, and so is each stock
pub record IsSound (c : CaseRows) (s : List ℕ) : Type 0 where
  pub valid : IsCase c
  pub pairs : (p k : ℕ) → p < length c.parts → k < length c.sites → ArePairRates c p k (pair_rates c p k)
  pub allocation : IsAllocation c s

-- part l of the case is a line unit
pub record IsLine (c : CaseRows) (l : ℕ) : Type 0 where
  pub is_part : l < length c.parts
  pub no_parent : is_line (part_at c.parts l) ≡ true

-- part i of the case is a shop unit of the line unit l
pub record IsShop (c : CaseRows) (l i : ℕ) : Type 0 where
  pub is_part : i < length c.parts
  pub line_is : line_of c.parts i ≡ Some l

-- part i of the case is a shop unit of some line unit
pub record IsShopUnit (c : CaseRows) (i : ℕ) : Type 0 where
  pub line : ℕ
  pub is_shop : IsShop c line i

-- the ranges of a direct part of d units and a zero-stock mean of z units, by the checks of the rates
pub record IsRated (d z : ℕ) : Type 0 where
  pub some : (z ≡ 0) ⊎ (365000000000000000000 ≤ d * 10000000)
  pub order : d ≤ z
  pub most : z ≤ 256 * 365000000000000000000
  pub ratio : z ≤ 1024 * d

-- the same of the ends: the cap is 0, or the direct part is above 0 and the cap not far from it
pub record IsPipeline (f : ℕ) (x : Pipeline f) : Type 0 where
  pub some : (x.cap ≡ 0) ⊎ ((0 < x.direct.lo) × (x.cap ≤ 2048 * x.direct.lo))
  pub order : x.direct.lo ≤ x.cap
  pub direct_most : IsWithinLimit f x.direct
  pub cap_most : x.cap ≤ 256 * 2 ^ f
  pub stock_most : x.stock ≤ most_stock

-- the pipeline has a table
abbrev pub HasTable : (f : ℕ) → Moments f → Type 0
HasTable f m = CanTable f m.mean m.variance
