-- A comparison encloses the model's and the Poisson values at every depth from 1024 on.
use Rattle.std.specs.Prelude.{◌≡◌, ℕ, ◌<◌, List, [], length, get_or}
use Rattle.exact_model.specs.Fraction.{Encloses}
use Rattle.fixed_interval.specs.Ends.{ends_exact}
use Rattle.spares_input.specs.Frames.{part_at, site_at}
use Rattle.spares_input.specs.Pairs.{pair_place}
use Rattle.spares_input.specs.Cases.{CaseRows, frame_rows, pair_count}
use Rattle.spares_input.specs.Stocks.{StockList}
use Rattle.fleet_model.specs.Rows.{stock}
use Rattle.fleet_model.specs.Pairs.{backorders}
use Rattle.fleet_model.specs.Poisson.{poisson, poisson_total}
use Rattle.fleet_model.specs.Fleet.{case_total}
use Rattle.metric_compare.specs.declared.report.CompareItem.{CompareItem}
use Rattle.metric_compare.specs.declared.report.CompareReport.{CompareReport}

-- the line of part p at site k encloses the model's and the Poisson backorders, at the list s of stocks
pub record ShowsCompared (c : CaseRows) (s : List ℕ) (p k : ℕ) (item : CompareItem) : Type 0 where
  pub part_is : item.part ≡ (part_at c.parts p).name
  pub site_is : item.site ≡ (site_at c.sites k).name
  pub stock_is : item.stock ≡ stock c s p k
  pub backorders_in : Encloses 48 item.backorders.lo item.backorders.hi (backorders c s p k)
  pub poisson_in : Encloses 48 item.poisson.lo item.poisson.hi (poisson c s p k)

-- an empty line, the result of a look-up past the last line
abbrev pub no_compared : CompareItem
no_compared = record { part = []; site = []; stock = 0; backorders = ends_exact 48 0; poisson = ends_exact 48 0 }

-- a line for each pair by part and then by site, and the two weighted totals
pub record ShowsComparison (c : CaseRows) (s : StockList) (report : CompareReport) : Type 0 where
  pub item_count : length report.items ≡ pair_count (frame_rows c)
  pub items_in : (p k : ℕ) → p < length c.parts → k < length c.sites
      → ShowsCompared c s.list p k (get_or report.items (pair_place (length c.sites) p k) no_compared)
  pub total_in : Encloses 48 report.total.lo report.total.hi (case_total c s.list)
  pub poisson_total_in : Encloses 48 report.poisson_total.lo report.poisson_total.hi (poisson_total c s.list)
