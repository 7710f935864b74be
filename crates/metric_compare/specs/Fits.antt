-- The comparisons that a text can show: their numbers are below 2^86 units of 2^-48.
use Rattle.std.specs.Prelude.{All}
use Rattle.plan_report.specs.Fits.{IntervalFits}
use Rattle.metric_compare.specs.declared.report.CompareItem.{CompareItem}
use Rattle.metric_compare.specs.declared.report.CompareReport.{CompareReport}

-- both intervals of a pair fit
pub record ComparedFits (item : CompareItem) : Type 0 where
  pub backorders : IntervalFits item.backorders
  pub poisson : IntervalFits item.poisson

-- every interval of the comparison fits
pub record FitsComparison (report : CompareReport) : Type 0 where
  pub items : All ComparedFits report.items
  pub total : IntervalFits report.total
  pub poisson_total : IntervalFits report.poisson_total
