-- A case with the stocks held.
use Rattle.std.specs.Result.{IsOk}
use Rattle.std.specs.Prelude.{ℕ}
use Rattle.spares_input.specs.Cases.{CaseRows, IsCase}
use Rattle.spares_input.specs.Stocks.{AreStocksOf, StockList}
use Rattle.demand_rates.specs.RateLists.{RateList}
use Rattle.demand_rates.specs.Rates.{AreRatesOf}
use Rattle.family_points.specs.Inputs.{FamilyBox}
use Rattle.family_points.specs.Vectors.{limits, vector_of}
use Rattle.held_work.specs.Work.{held_work_of}

-- a case, its rates, and the stocks held
pub record HeldCase : Type 0 where
  pub case : CaseRows
  pub rates : RateList
  pub held : StockList

-- these three
abbrev pub held_case : CaseRows → RateList → StockList → HeldCase
held_case c r h = record { case = c; rates = r; held = h }

-- The rates are those of the case. The held stocks are for the case and within its limits, and the work from them is
-- within its limit.
pub record IsHeldCase (x : HeldCase) : Type 0 where
  pub valid : IsCase x.case
  pub rates : AreRatesOf x.case x.rates
  pub held : AreStocksOf x.case x.held
  pub work : IsOk (held_work_of x.case x.held.list)

-- the family of line unit l, with its vectors from the held stocks to the limits
abbrev pub held_box : HeldCase → ℕ → FamilyBox
held_box x l = record {
  case = x.case;
  rates = x.rates;
  line = l;
  held = vector_of x.case l x.held.list;
  low = vector_of x.case l x.held.list;
  high = limits x.case l;
}
