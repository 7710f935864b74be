-- The reports that a text can show: their numbers with decimals are below 2^86 units of 2^-48.
use Rattle.std.specs.Prelude.{ℕ, ◌^◌, ◌<◌, ◌≤◌, IfSome}
use Rattle.fixed_interval.specs.Ends.{Ends}
use Rattle.hull.specs.declared.price.Price.{Price}
use Rattle.hull.specs.Limits.{most_price_money}
use Rattle.case_figures.specs.Fits.{FitsPrint}
use Rattle.plan_report.specs.declared.plan.PlanReport.{PlanReport}
use Rattle.plan_report.specs.declared.check.CheckReport.{CheckReport}
use Rattle.plan_report.specs.declared.summary.Summary.{Summary}

-- a number in units of 2^-48 is small enough to be printed
abbrev pub UnitsFit : ℕ → Type 0
UnitsFit n = n < 2 ^ 86

-- the upper end of an interval is small enough to be printed
abbrev pub IntervalFits : Ends → Type 0
IntervalFits x = UnitsFit x.hi

-- a price is small enough, and its money is from 1 to 10^12
pub record PriceFits (price : Price) : Type 0 where
  pub p : price.p < 2 ^ 75
  pub money : 0 < price.q
  pub most_money : price.q ≤ most_price_money

-- the numbers of a plan's report can be printed
pub record FitsPlan (report : PlanReport) : Type 0 where
  pub figures : FitsPrint report.figures
  pub loss : IfSome report.loss IntervalFits
  pub bound : UnitsFit report.bound
  pub gap : UnitsFit report.gap
  pub rounding : UnitsFit report.rounding
  pub price : PriceFits report.price

-- the numbers of a check's report can be printed
pub record FitsCheck (report : CheckReport) : Type 0 where
  pub upper : UnitsFit report.upper
  pub bound : UnitsFit report.bound

-- the numbers of the demonstration's summary can be printed
pub record FitsSummary (summary : Summary) : Type 0 where
  pub total : IntervalFits summary.total
  pub bound : UnitsFit summary.bound
  pub gap : UnitsFit summary.gap
