-- The numbers of a family, and its levels computed from them alone. A place is the number of a part in the family: 0
-- for the line unit, and i + 1 for its shop unit i, in part order.
use Rattle.std.specs.Prelude.{◌≡◌, ℕ, ◌+◌, ◌-◌, ◌*◌, ◌^◌, ◌<◌, ◌≤◌, ◌⊎◌, List, length, map, flat_map, get_or}
use Rattle.std.specs.List.{range_with_len}
use Rattle.fixed_interval.specs.Ends.{Ends, IsWithinLimit, ends_exact, ends_ratio}
use Rattle.moment_table.specs.declared.kinds.Row.{Row}
use Rattle.moment_table.specs.Profile.{table_rows}
use Rattle.moment_table.specs.Rows.{TableRows, at_stock, AreBackorders}
use Rattle.backorder_bounds.specs.Places.{Place}
use Rattle.depot_pipeline.specs.declared.Moments.{Moments}
use Rattle.depot_pipeline.specs.declared.Feed.{Feed}
use Rattle.depot_pipeline.specs.Profile.{added, depot_shop_ends, depot_line_ends}
use Rattle.base_pipeline.specs.declared.Held.{Held}
use Rattle.base_pipeline.specs.Profile.{base_shop_ends, base_own_ends, base_line_ends, delay_at}
use Rattle.spares_input.specs.Limits.{most_sites, most_family, most_stock}
use Rattle.spares_input.specs.Cases.{CaseRows}
use Rattle.spares_input.specs.Stocks.{limit_at}
use Rattle.fleet_model.specs.Rows.{all_sites, stock, weight}
use Rattle.fleet_model.specs.Units.{pipeline_scale}
use Rattle.fleet_model.specs.Fleet.{family}
use Rattle.demand_rates.specs.declared.kinds.PairRates.{PairRates}
use Rattle.demand_rates.specs.Rates.{pair_rates}
use Rattle.family_numbers.specs.declared.numbers.PairNumbers.{PairNumbers}
use Rattle.family_numbers.specs.declared.own_part.OwnPart.{OwnPart}
use Rattle.family_items.specs.declared.item.Item.{Item}
use Rattle.family_items.specs.Profile.{share_from}

-- the numbers from which a family is computed: its parts, the line unit first; the number of sites; the numbers of each
-- pair, by part and then by site; and the weight of the line unit
pub record FamilyNumbers (f : ℕ) : Type 0 where
  pub parts : List ℕ
  pub sites : ℕ
  pub pairs : List (PairNumbers f)
  pub weight : ℕ

-- ---- the numbers of a case

abbrev pub numbers_from : (f : ℕ) → PairRates → ℕ → PairNumbers f
numbers_from f r limit = record {
  direct = ends_ratio f r.direct pipeline_scale;
  cap = (ends_ratio f r.zero_stock pipeline_scale).hi;
  share = share_from f r;
  limit = limit;
}

-- the numbers of part p at site k
abbrev pub pair_numbers : (f : ℕ) → CaseRows → ℕ → ℕ → PairNumbers f
pair_numbers f c p k = numbers_from f (pair_rates c p k) (limit_at c.parts p k)

-- the numbers of the family of the line unit l
abbrev pub numbers_of : (f : ℕ) → CaseRows → ℕ → FamilyNumbers f
numbers_of f c l = record {
  parts = family c l;
  sites = length c.sites;
  pairs = flat_map (λ p. map (pair_numbers f c p) (all_sites c)) (family c l);
  weight = weight c l;
}

-- ---- the ranges of a family's numbers

-- the value of a look-up past the last pair: zeros
abbrev pub no_numbers : (f : ℕ) → PairNumbers f
no_numbers f = record { direct = ends_exact f 0; cap = 0; share = ends_exact f 0; limit = 0 }

-- the numbers of the part at place i at site k
abbrev pub pair_at : {f : ℕ} → FamilyNumbers f → ℕ → ℕ → PairNumbers f
pair_at {f} x i k = get_or x.pairs (i * x.sites + k) (no_numbers f)

-- the cap is 0, or the direct part is above 0 and the cap not far from it; the share is at most 1
pub record ArePairNumbers (f : ℕ) (x : PairNumbers f) : Type 0 where
  pub some : (x.cap ≡ 0) ⊎ ((0 < x.direct.lo) × (x.cap ≤ 2048 * x.direct.lo))
  pub order : x.direct.lo ≤ x.cap
  pub direct_most : IsWithinLimit f x.direct
  pub cap_most : x.cap ≤ 256 * 2 ^ f
  pub share_most : x.share.hi ≤ 2 ^ f
  pub limit_most : x.limit ≤ most_stock

-- 1 to 9 parts, 2 to 16 sites, the numbers of each pair in order, and a weight of at most 100
pub record AreNumbers (f : ℕ) (x : FamilyNumbers f) : Type 0 where
  pub some : 0 < length x.parts
  pub few : length x.parts ≤ most_family
  pub fewest_sites : 2 ≤ x.sites
  pub most_sites : x.sites ≤ most_sites
  pub complete : length x.pairs ≡ length x.parts * x.sites
  pub pairs : (i k : ℕ) → i < length x.parts → k < x.sites → ArePairNumbers f (pair_at x i k)
  pub weight_most : x.weight ≤ 100

-- ---- the levels

-- the rows of a pipeline's table
abbrev pub rows_of : (f : ℕ) → Moments f → List (Row f)
rows_of f m = table_rows f m.mean m.variance

-- the table of a pipeline, stored at the stocks 0 to the limit
abbrev pub table_of : (f : ℕ) → Moments f → ℕ → TableRows f
table_of f m limit = record { rows = rows_of f m; stored = limit + 1 }

-- the feed of a pair with this row to another, by a share
abbrev pub feed_from : (f : ℕ) → Ends → Row f → Feed f
feed_from f share row = record { share = share; backorders = row.ebo; spread = row.vbo }

-- the backorders of a pair with this row, as its line unit's repairs wait for them
abbrev pub delay_from : (f : ℕ) → Row f → Held f
delay_from f row = record { backorders = row.ebo; spread = row.vbo }

-- the shop units by number, from 0 on
abbrev pub shop_numbers : {f : ℕ} → FamilyNumbers f → List ℕ
shop_numbers x = range_with_len 0 (length x.parts - 1)

-- the stock of shop unit i in such a list, 0 past its end
abbrev pub nth_stock : List ℕ → ℕ → ℕ
nth_stock stocks i = get_or stocks i 0

-- the pipeline of the shop unit i at the depot
abbrev pub depot_shop_moments : (f : ℕ) → FamilyNumbers f → ℕ → Moments f
depot_shop_moments f x i = depot_shop_ends f (pair_at x (i + 1) 0).direct (pair_at x (i + 1) 0).cap

-- its table, stored up to its limit there
abbrev pub depot_shop_table : (f : ℕ) → FamilyNumbers f → ℕ → TableRows f
depot_shop_table f x i = table_of f (depot_shop_moments f x i) (pair_at x (i + 1) 0).limit

-- its row at the stock s
abbrev pub depot_shop_row : (f : ℕ) → FamilyNumbers f → ℕ → ℕ → Row f
depot_shop_row f x i s = at_stock (rows_of f (depot_shop_moments f x i)) s

-- the feed of each shop unit to the line unit at the depot, at their stocks d there
abbrev pub depot_feeds : (f : ℕ) → FamilyNumbers f → List ℕ → List (Feed f)
depot_feeds f x d = map (λ i. feed_from f (pair_at x (i + 1) 0).share (depot_shop_row f x i (nth_stock d i)))
    (shop_numbers x)

-- the pipeline of the line unit at the depot, with these feeds
abbrev pub depot_line_moments : (f : ℕ) → FamilyNumbers f → List ℕ → Moments f
depot_line_moments f x d = depot_line_ends f (pair_at x 0 0).direct (pair_at x 0 0).cap (depot_feeds f x d)

-- its table, stored up to its limit there
abbrev pub depot_line_table : (f : ℕ) → FamilyNumbers f → List ℕ → TableRows f
depot_line_table f x d = table_of f (depot_line_moments f x d) (pair_at x 0 0).limit

-- its row at the stock s
abbrev pub depot_line_row : (f : ℕ) → FamilyNumbers f → List ℕ → ℕ → Row f
depot_line_row f x d s = at_stock (rows_of f (depot_line_moments f x d)) s

-- the pipeline of the shop unit i at base k, if the depot has n of it
abbrev pub base_shop_moments : (f : ℕ) → FamilyNumbers f → ℕ → ℕ → ℕ → Moments f
base_shop_moments f x i k n =
    base_shop_ends f (pair_at x (i + 1) k).direct (pair_at x (i + 1) k).cap
    (feed_from f (pair_at x (i + 1) k).share (depot_shop_row f x i n))

-- its table, stored up to its limit there
abbrev pub base_shop_table : (f : ℕ) → FamilyNumbers f → ℕ → ℕ → ℕ → TableRows f
base_shop_table f x i k n = table_of f (base_shop_moments f x i k n) (pair_at x (i + 1) k).limit

-- its row at the stock s
abbrev pub base_shop_row : (f : ℕ) → FamilyNumbers f → ℕ → ℕ → ℕ → ℕ → Row f
base_shop_row f x i k n s = at_stock (rows_of f (base_shop_moments f x i k n)) s

-- the backorders of each shop unit at base k, with the stocks d at the depot and b at the base
abbrev pub base_delays : (f : ℕ) → FamilyNumbers f → ℕ → List ℕ → List ℕ → List (Held f)
base_delays f x k d b = map (λ i. delay_from f (base_shop_row f x i k (nth_stock d i) (nth_stock b i))) (shop_numbers x)

-- the pipeline of the line unit at base k, with these stocks
abbrev pub base_line_moments : (f : ℕ) → FamilyNumbers f → ℕ → ℕ → List ℕ → List ℕ → Moments f
base_line_moments f x k o d b =
    base_line_ends f (pair_at x 0 k).direct (pair_at x 0 k).cap
    (feed_from f (pair_at x 0 k).share (depot_line_row f x d o)) (base_delays f x k d b)

-- the own part of the line unit's pipeline at base k, which doesn't depend on the shop units' stocks there
abbrev pub own_part : (f : ℕ) → FamilyNumbers f → ℕ → ℕ → List ℕ → OwnPart f
own_part f x k o d = record {
  moments = base_own_ends f (pair_at x 0 k).direct (feed_from f (pair_at x 0 k).share (depot_line_row f x d o));
  cap = (pair_at x 0 k).cap;
  limit = (pair_at x 0 k).limit;
}

-- the part of its pipeline there that the shop units make up: the sums of their backorders and of these' variances
abbrev pub shop_part : (f : ℕ) → FamilyNumbers f → ℕ → List ℕ → List ℕ → Moments f
shop_part f x k d b = record {
  mean = added (ends_exact f 0) (λ i. (delay_at (base_delays f x k d b) i).backorders) (length (base_delays f x k d b));
  variance = added (ends_exact f 0) (λ i. (delay_at (base_delays f x k d b) i).spread) (length (base_delays f x k d b));
}

-- its backorders at the stock s, on which its pipeline there doesn't depend
abbrev pub base_backorders : (f : ℕ) → FamilyNumbers f → ℕ → ℕ → List ℕ → List ℕ → ℕ → Ends
base_backorders f x k o d b s = (at_stock (rows_of f (base_line_moments f x k o d b)) s).ebo

-- the list has these backorders at the stocks 0 to its limit there
abbrev pub AreBaseBackorders : (f : ℕ) → FamilyNumbers f → ℕ → ℕ → List ℕ → List ℕ → List Ends → Type 0
AreBaseBackorders f x k o d b list =
    AreBackorders f (base_line_moments f x k o d b).mean (base_line_moments f x k o d b).variance
    (pair_at x 0 k).limit list

-- its stock s there in the table of its pipeline
abbrev pub base_line_place : (f : ℕ) → FamilyNumbers f → ℕ → ℕ → List ℕ → List ℕ → ℕ → Place
base_line_place f x k o d b s = record {
  mean = (base_line_moments f x k o d b).mean;
  variance = (base_line_moments f x k o d b).variance;
  stock = s;
}

-- ---- the stocks of a case

-- the stocks of the family of the line unit l at site k, by place
abbrev pub family_stocks : CaseRows → ℕ → List ℕ → ℕ → List ℕ
family_stocks c l s k = map (λ p. stock c s p k) (family c l)

-- the mean and the variance of an item's pipeline
abbrev pub moments_of : {f : ℕ} → Item f → Moments f
moments_of x = record { mean = x.mean; variance = x.variance }
