-- The ranges of the numbers of reports: the numbers that a text can show, and the numbers of a sweep.
use Rattle.std.specs.Prelude.{◌<◌, ◌≤◌, All, IfSome}
use Rattle.hull.specs.declared.price.Price.{Price}
use Rattle.hull.specs.Limits.{most_price_units, most_price_money, most_total}
use Rattle.plan_report.specs.Fits.{PriceFits, UnitsFit}
use Rattle.budget_sweep.specs.declared.report.SweepPoint.{SweepPoint}
use Rattle.budget_sweep.specs.declared.report.SweepReport.{SweepReport}
use Rattle.budget_sweep.specs.declared.report.TargetReport.{TargetReport}

-- ---- texts

-- the ends of a point are in order, and they and its price are small enough to be printed
pub record PointFits (point : SweepPoint) : Type 0 where
  pub ends : point.lo ≤ point.hi
  pub hi : UnitsFit point.hi
  pub price : IfSome point.price PriceFits

-- all points of a sweep's report can be printed
abbrev pub SweepFits : SweepReport → Type 0
SweepFits report = All PointFits report.points

-- the point of a target's report can be printed, if there is one
abbrev pub TargetFits : TargetReport → Type 0
TargetFits report = IfSome report.reach PointFits

-- ---- sweeps of at most 2,000 curves

-- the price is the price of a step
pub record IsStepPrice (price : Price) : Type 0 where
  pub fall : 0 < price.p
  pub most_fall : price.p < most_price_units
  pub rise : 0 < price.q
  pub most_rise : price.q ≤ most_price_money

-- the sums are sums over at most 2,000 curves
pub record IsSmallPoint (point : SweepPoint) : Type 0 where
  pub cost : point.cost ≤ 2000000000000000
  pub ends : point.lo ≤ point.hi
  pub hi : point.hi ≤ most_total
  pub price : IfSome point.price IsStepPrice

-- all points of a sweep's report are such sums
abbrev pub IsSmallSweep : SweepReport → Type 0
IsSmallSweep report = All IsSmallPoint report.points

-- the point of a target's report is such a sum, if there is one
abbrev pub IsSmallTarget : TargetReport → Type 0
IsSmallTarget report = IfSome report.reach IsSmallPoint
