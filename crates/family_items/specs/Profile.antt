-- The ends of the items of a family and of its total, level by level, from the rates of the case.
use Rattle.std.specs.Prelude.{ℕ, ◌+◌, ◌-◌, List, length, map, flat_map}
use Rattle.fixed_interval.specs.Ends.{Ends, ends_exact, ends_ratio, ends_times}
use Rattle.moment_table.specs.Profile.{table_rows}
use Rattle.moment_table.specs.Rows.{at_stock}
use Rattle.depot_pipeline.specs.declared.Moments.{Moments}
use Rattle.depot_pipeline.specs.declared.Feed.{Feed}
use Rattle.depot_pipeline.specs.Profile.{added, depot_shop_ends, depot_line_ends}
use Rattle.base_pipeline.specs.declared.Held.{Held}
use Rattle.base_pipeline.specs.Profile.{base_shop_ends, base_line_ends}
use Rattle.spares_input.specs.Cases.{CaseRows}
use Rattle.spares_input.specs.Frames.{line_of}
use Rattle.spares_input.specs.Stocks.{StockList}
use Rattle.fleet_model.specs.Rows.{all_sites, line_units, shop_units, stock, weight}
use Rattle.fleet_model.specs.Units.{pipeline_scale}
use Rattle.fleet_model.specs.Pairs.{by_pair}
use Rattle.fleet_model.specs.Fleet.{family}
use Rattle.demand_rates.specs.declared.kinds.PairRates.{PairRates}
use Rattle.demand_rates.specs.Rates.{pair_rates}
use Rattle.family_items.specs.declared.pipeline.Pipeline.{Pipeline}
use Rattle.family_items.specs.declared.item.Item.{Item}
use Rattle.family_items.specs.declared.item.FamilyResult.{FamilyResult}

-- ---- a pair by itself

-- the direct part D of a pair, the cap by its zero-stock mean M, and its stock
abbrev pub pipeline_from : (f p k : ℕ) → PairRates → ℕ → Pipeline f
pipeline_from f p k r s = record {
  part = record { 0 = p };
  site = record { 0 = k };
  stock = s;
  direct = ends_ratio f r.direct pipeline_scale;
  cap = (ends_ratio f r.zero_stock pipeline_scale).hi;
}

-- the same for part p at site k, by the case's own rates and its stock
abbrev pub pipeline_of : (f : ℕ) → CaseRows → List ℕ → ℕ → ℕ → Pipeline f
pipeline_of f c s p k = pipeline_from f p k (pair_rates c p k) (stock c s p k)

-- the share of a pair in the depot's backorders
abbrev pub share_from : ℕ → PairRates → Ends
share_from f r = ends_ratio f r.share.num r.share.den

-- the share of part p at site k, by the case's own rates
abbrev pub share_of : ℕ → CaseRows → ℕ → ℕ → Ends
share_of f c p k = share_from f (pair_rates c p k)

-- the pipeline of a pair, with its backorders and their variance at the pair's stock
unfoldable pub stocked : (f : ℕ) → Pipeline f → Moments f → Item f
stocked f x m = record {
  part = x.part;
  site = x.site;
  stock = x.stock;
  mean = m.mean;
  variance = m.variance;
  backorders = (at_stock (table_rows f m.mean m.variance) x.stock).ebo;
  spread = (at_stock (table_rows f m.mean m.variance) x.stock).vbo;
}

-- the feed of an item to another pair, by that pair's share
abbrev pub feed_of : (f : ℕ) → Ends → Item f → Feed f
feed_of f share x = record { share = share; backorders = x.backorders; spread = x.spread }

-- the backorders of a shop unit at a base, for which its line unit's repairs there wait
abbrev pub delay_of : (f : ℕ) → Item f → Held f
delay_of f x = record { backorders = x.backorders; spread = x.spread }

-- ---- the four levels, of a case c and the list s of its stocks

-- the shop unit i at the depot
unfoldable pub depot_shop : (f : ℕ) → CaseRows → List ℕ → ℕ → Item f
depot_shop f c s i = stocked f (pipeline_of f c s i 0)
    (depot_shop_ends f (pipeline_of f c s i 0).direct (pipeline_of f c s i 0).cap)

-- its feed to its line unit there
abbrev pub depot_feed : (f : ℕ) → CaseRows → List ℕ → ℕ → Feed f
depot_feed f c s i = feed_of f (share_of f c i 0) (depot_shop f c s i)

-- the line unit l at the depot
unfoldable pub depot_line : (f : ℕ) → CaseRows → List ℕ → ℕ → Item f
depot_line f c s l =
    stocked f (pipeline_of f c s l 0)
    (depot_line_ends f (pipeline_of f c s l 0).direct (pipeline_of f c s l 0).cap
    (map (depot_feed f c s) (shop_units c l)))

-- the shop unit i at base j
unfoldable pub base_shop : (f : ℕ) → CaseRows → List ℕ → ℕ → ℕ → Item f
base_shop f c s i j =
    stocked f (pipeline_of f c s i j)
    (base_shop_ends f (pipeline_of f c s i j).direct (pipeline_of f c s i j).cap
    (feed_of f (share_of f c i j) (depot_shop f c s i)))

-- the line unit l at base j
unfoldable pub base_line : (f : ℕ) → CaseRows → List ℕ → ℕ → ℕ → Item f
base_line f c s l j =
    stocked f (pipeline_of f c s l j)
    (base_line_ends f (pipeline_of f c s l j).direct (pipeline_of f c s l j).cap
    (feed_of f (share_of f c l j) (depot_line f c s l))
    (map (λ i. delay_of f (base_shop f c s i j)) (shop_units c l)))

-- ---- families

-- the item of part p at site k
abbrev pub item_of : (f : ℕ) → CaseRows → List ℕ → ℕ → ℕ → Item f
item_of f c s p k =
    by_pair (λ l i. depot_shop f c s i) (depot_line f c s) (λ l i j. base_shop f c s i j) (base_line f c s)
    (line_of c.parts p) p k

-- the items of part p, by site
abbrev pub part_items : (f : ℕ) → CaseRows → List ℕ → ℕ → List (Item f)
part_items f c s p = map (item_of f c s p) (all_sites c)

-- weight times the backorders of the line unit l at base j + 1
abbrev pub weighed : (f : ℕ) → CaseRows → List ℕ → ℕ → ℕ → Ends
weighed f c s l j = ends_times (item_of f c s l (j + 1)).backorders (weight c l)

-- the sum of these over the bases, from the first on
abbrev pub total_of : (f : ℕ) → CaseRows → List ℕ → ℕ → Ends
total_of f c s l = added (ends_exact f 0) (weighed f c s l) (length c.sites - 1)

-- the line unit l first and then its shop units, each by site, and the family's total
abbrev pub family_of : (f : ℕ) → CaseRows → ℕ → StockList → FamilyResult f
family_of f c l s = record {
  items = flat_map (part_items f c s.list) (family c l);
  total = total_of f c s.list l;
}

-- the results of all line units, in part order
abbrev pub families_of : (f : ℕ) → CaseRows → StockList → List (FamilyResult f)
families_of f c s = map (λ l. family_of f c l s) (line_units c)
