-- The figures of a case at its stocks, from the ends of its pairs and its families.
use Rattle.std.specs.Prelude.{ℕ, List, map, length}
use Rattle.std.specs.List.{fold, range_with_len}
use Rattle.fixed_interval.specs.Ends.{Ends, ends_exact, ends_add}
use Rattle.spares_input.specs.Frames.{part_at, site_at}
use Rattle.spares_input.specs.Pairs.{part_of_place, site_of_place}
use Rattle.spares_input.specs.Cases.{CaseRows, frame_rows, pair_count}
use Rattle.spares_input.specs.Stocks.{StockList, cost_of_stocks}
use Rattle.fleet_model.specs.Rows.{bases, line_units, systems, per_system}
use Rattle.availability.specs.declared.Weighted.{Weighted}
use Rattle.availability.specs.Profile.{factor_ends, base_ends, fleet_ends}
use Rattle.family_items.specs.declared.item.Item.{Item}
use Rattle.family_items.specs.Profile as family
use Rattle.family_items.specs.Profile.{item_of}
use Rattle.case_figures.specs.Spans.{span_of}
use Rattle.case_figures.specs.declared.figures.ItemLine.{ItemLine}
use Rattle.case_figures.specs.declared.figures.BaseLine.{BaseLine}
use Rattle.case_figures.specs.declared.figures.Figures.{Figures}

-- an item with the names of its part and its site
abbrev pub named : (f : ℕ) → CaseRows → Item f → ItemLine
named f c x = record {
  part = (part_at c.parts x.part.0).name;
  site = (site_at c.sites x.site.0).name;
  stock = x.stock;
  mean = span_of f x.mean;
  variance = span_of f x.variance;
  backorders = span_of f x.backorders;
  spread = span_of f x.spread;
}

-- the items of a case c at the list s of its stocks, by part and then by site
abbrev pub item_at_place : (f : ℕ) → CaseRows → List ℕ → ℕ → Item f
item_at_place f c s i = item_of f c s (part_of_place (length c.sites) i).0 (site_of_place (length c.sites) i).0

-- the items of all pairs
abbrev pub all_items : (f : ℕ) → CaseRows → List ℕ → List (Item f)
all_items f c s = map (item_at_place f c s) (range_with_len 0 (pair_count (frame_rows c)))

-- the availability factor of the line unit l at base j
abbrev pub factor_at : ℕ → CaseRows → List ℕ → ℕ → ℕ → Ends
factor_at f c s j l = factor_ends f (item_of f c s l j).backorders (systems c j) (per_system c l)

-- the availability of base j, from all line units in order
abbrev pub availability_at : ℕ → CaseRows → List ℕ → ℕ → Ends
availability_at f c s j = base_ends f (map (factor_at f c s j) (line_units c))

-- the availability of base j with the base's name
abbrev pub availability_line : ℕ → CaseRows → List ℕ → ℕ → BaseLine
availability_line f c s j =
    record { site = (site_at c.sites j).name; availability = span_of f (availability_at f c s j) }

-- the availability of base j with its count of systems
abbrev pub weighted_at : (f : ℕ) → CaseRows → List ℕ → ℕ → Weighted f
weighted_at f c s j = record { systems = systems c j; value = availability_at f c s j }

-- the mean availability, weighted by the systems of each base
abbrev pub fleet_of : ℕ → CaseRows → List ℕ → Ends
fleet_of f c s = fleet_ends f (map (weighted_at f c s) (bases c))

-- the sum of the families' totals, in order
abbrev pub case_total_of : ℕ → CaseRows → List ℕ → Ends
case_total_of f c s = fold ends_add (ends_exact f 0) (map (family.total_of f c s) (line_units c))

-- the figures with f binary places
abbrev pub figures_of : ℕ → CaseRows → StockList → Figures
figures_of f c s = record {
  cost = cost_of_stocks c s;
  items = map (named f c) (all_items f c s.list);
  bases = map (availability_line f c s.list) (bases c);
  fleet = span_of f (fleet_of f c s.list);
  total = span_of f (case_total_of f c s.list);
}
