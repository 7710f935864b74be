-- The report of a comparison, from the ends of the pairs and of the two totals.
use Rattle.std.specs.Prelude.{ℕ, List, length, map}
use Rattle.std.specs.List.{range_with_len}
use Rattle.spares_input.specs.Frames.{part_at, site_at}
use Rattle.spares_input.specs.Pairs.{part_of_place, site_of_place}
use Rattle.spares_input.specs.Cases.{CaseRows, frame_rows, pair_count}
use Rattle.spares_input.specs.Stocks.{StockList}
use Rattle.fleet_model.specs.Rows.{stock}
use Rattle.family_items.specs.Profile.{item_of}
use Rattle.case_figures.specs.Figures.{case_total_of}
use Rattle.metric_compare.specs.Profile.{poisson_of, poisson_total_of}
use Rattle.metric_compare.specs.declared.report.CompareItem.{CompareItem}
use Rattle.metric_compare.specs.declared.report.CompareReport.{CompareReport}

-- the line of part p at site k; s lists the stocks
abbrev pub compared : CaseRows → List ℕ → ℕ → ℕ → CompareItem
compared c s p k = record {
  part = (part_at c.parts p).name;
  site = (site_at c.sites k).name;
  stock = stock c s p k;
  backorders = (item_of 48 c s p k).backorders;
  poisson = poisson_of 48 c s p k;
}

-- the line of pair i
abbrev pub compared_at : CaseRows → List ℕ → ℕ → CompareItem
compared_at c s i = compared c s (part_of_place (length c.sites) i).0 (site_of_place (length c.sites) i).0

-- all pairs by part and then by site, and the two totals
abbrev pub comparison_of : CaseRows → StockList → CompareReport
comparison_of c s = record {
  items = map (compared_at c s.list) (range_with_len 0 (pair_count (frame_rows c)));
  total = case_total_of 48 c s.list;
  poisson_total = poisson_total_of 48 c s.list;
}
