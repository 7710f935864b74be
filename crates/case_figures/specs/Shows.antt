-- The figures enclose the model's values at every depth from 1024 on.
use Rattle.std.specs.Prelude.{◌≡◌, ℕ, ◌-◌, ◌<◌, List, [], length, get_or}
use Rattle.exact_model.specs.Fraction.{Fraction, Encloses}
use Rattle.fixed_interval.specs.Ends.{ends_exact}
use Rattle.spares_input.specs.Frames.{part_at, site_at}
use Rattle.spares_input.specs.Pairs.{pair_place}
use Rattle.spares_input.specs.Cases.{CaseRows, frame_rows, pair_count}
use Rattle.spares_input.specs.Stocks.{StockList}
use Rattle.fleet_model.specs.Rows.{stock}
use Rattle.fleet_model.specs.Pairs.{mean, variance, backorders, spread}
use Rattle.fleet_model.specs.Fleet.{availability, fleet, case_total, cost}
use Rattle.fleet_model.specs.Laws.{IsBase}
use Rattle.case_figures.specs.Spans.{places, ends}
use Rattle.case_figures.specs.declared.figures.Span.{Span}
use Rattle.case_figures.specs.declared.figures.Span.TheVariants.{Bits48}
use Rattle.case_figures.specs.declared.figures.ItemLine.{ItemLine}
use Rattle.case_figures.specs.declared.figures.BaseLine.{BaseLine}
use Rattle.case_figures.specs.declared.figures.Figures.{Figures}

-- the span has f places, and encloses q at each depth
pub record ShowsSpan (f : ℕ) (q : ℕ → Fraction) (x : Span) : Type 0 where
  pub places_are : places x ≡ f
  pub encloses : Encloses f (ends x).lo (ends x).hi q

-- the line of part p at site k, at the list s of stocks
pub record ShowsItem (f : ℕ) (c : CaseRows) (s : List ℕ) (p k : ℕ) (item : ItemLine) : Type 0 where
  pub part_is : item.part ≡ (part_at c.parts p).name
  pub site_is : item.site ≡ (site_at c.sites k).name
  pub stock_is : item.stock ≡ stock c s p k
  pub mean_in : ShowsSpan f (mean c s p k) item.mean
  pub variance_in : ShowsSpan f (variance c s p k) item.variance
  pub backorders_in : ShowsSpan f (backorders c s p k) item.backorders
  pub spread_in : ShowsSpan f (spread c s p k) item.spread

-- the line of base j
pub record ShowsBase (f : ℕ) (c : CaseRows) (s : List ℕ) (j : ℕ) (base : BaseLine) : Type 0 where
  pub site_is : base.site ≡ (site_at c.sites j).name
  pub availability_in : ShowsSpan f (λ n. availability c s n j) base.availability

-- an empty line, the result of a look-up past the last line
abbrev pub no_item_line : ItemLine
no_item_line =
    let nothing = Bits48 (ends_exact 48 0) in
    record {
      part = [];
      site = [];
      stock = 0;
      mean = nothing;
      variance = nothing;
      backorders = nothing;
      spread = nothing;
    }

-- an empty base, the result of a look-up past the last base: no name, and availability 0
abbrev pub no_base_line : BaseLine
no_base_line = record { site = []; availability = Bits48 (ends_exact 48 0) }

-- figures with f places: the cost of the stocks, a line for each pair by part and then by site, a line for each base,
-- the fleet and the total
pub record ShowsFigures (f : ℕ) (c : CaseRows) (s : StockList) (figures : Figures) : Type 0 where
  pub cost_is : figures.cost ≡ cost c s.list
  pub item_count : length figures.items ≡ pair_count (frame_rows c)
  pub items_in : (p k : ℕ) → p < length c.parts → k < length c.sites
      → ShowsItem f c s.list p k (get_or figures.items (pair_place (length c.sites) p k) no_item_line)
  pub base_count : length figures.bases ≡ length c.sites - 1
  pub bases_in : (j : ℕ) → IsBase c j → ShowsBase f c s.list j (get_or figures.bases (j - 1) no_base_line)
  pub fleet_in : ShowsSpan f (fleet c s.list) figures.fleet
  pub total_in : ShowsSpan f (case_total c s.list) figures.total
