-- The ends of the backorders of Poisson pipelines, level by level: each table has the capped mean as its mean and as
-- its variance.
use Rattle.std.specs.Prelude.{ℕ, List, map}
use Rattle.std.specs.List.{fold}
use Rattle.fixed_interval.specs.Ends.{Ends, ends_add, ends_exact, ends_times}
use Rattle.moment_table.specs.Profile.{table_rows}
use Rattle.moment_table.specs.Rows.{at_stock}
use Rattle.depot_pipeline.specs.declared.Feed.{Feed}
use Rattle.depot_pipeline.specs.Profile.{depot_shop_ends, depot_line_ends}
use Rattle.base_pipeline.specs.declared.Held.{Held}
use Rattle.base_pipeline.specs.Profile.{base_shop_ends, base_line_ends}
use Rattle.spares_input.specs.Cases.{CaseRows}
use Rattle.spares_input.specs.Frames.{line_of}
use Rattle.fleet_model.specs.Rows.{bases, line_units, shop_units, stock, weight}
use Rattle.fleet_model.specs.Pairs.{by_pair}
use Rattle.family_items.specs.Profile.{pipeline_of, share_of}

-- the backorders of a pipeline with this mean and this variance, at a stock
unfoldable pub backorders_at : (f : ℕ) → Ends → Ends → ℕ → Ends
backorders_at f m v s = (at_stock (table_rows f m v) s).ebo

-- the backorders of a Poisson pipeline, whose variance is its mean
abbrev pub poisson_at : (f : ℕ) → Ends → ℕ → Ends
poisson_at f m s = backorders_at f m m s

-- the feed of backorders to another pair, by that pair's share; no mean uses the spread
abbrev pub fed : (f : ℕ) → Ends → Ends → Feed f
fed f share x = record { share = share; backorders = x; spread = x }

-- a shop unit's backorders as they hold back its line unit
abbrev pub delay : (f : ℕ) → Ends → Held f
delay f x = record { backorders = x; spread = x }

-- ---- the four levels, of a case c and the list s of its stocks

-- the mean of the shop unit i's pipeline at the depot
abbrev pub depot_shop_mean : (f : ℕ) → CaseRows → List ℕ → ℕ → Ends
depot_shop_mean f c s i = (depot_shop_ends f (pipeline_of f c s i 0).direct (pipeline_of f c s i 0).cap).mean

-- the backorders of the shop unit i at the depot
unfoldable pub poisson_depot_shop : (f : ℕ) → CaseRows → List ℕ → ℕ → Ends
poisson_depot_shop f c s i = poisson_at f (depot_shop_mean f c s i) (stock c s i 0)

-- the feed of the shop unit i to its line unit at the depot
abbrev pub poisson_depot_feed : (f : ℕ) → CaseRows → List ℕ → ℕ → Feed f
poisson_depot_feed f c s i = fed f (share_of f c i 0) (poisson_depot_shop f c s i)

-- the mean of the line unit l's pipeline at the depot
abbrev pub depot_line_mean : (f : ℕ) → CaseRows → List ℕ → ℕ → Ends
depot_line_mean f c s l =
    (depot_line_ends f (pipeline_of f c s l 0).direct (pipeline_of f c s l 0).cap
    (map (poisson_depot_feed f c s) (shop_units c l))).mean

-- the backorders of the line unit l at the depot
unfoldable pub poisson_depot_line : (f : ℕ) → CaseRows → List ℕ → ℕ → Ends
poisson_depot_line f c s l = poisson_at f (depot_line_mean f c s l) (stock c s l 0)

-- the mean of the shop unit i's pipeline at base j
abbrev pub base_shop_mean : (f : ℕ) → CaseRows → List ℕ → ℕ → ℕ → Ends
base_shop_mean f c s i j =
    (base_shop_ends f (pipeline_of f c s i j).direct (pipeline_of f c s i j).cap
    (fed f (share_of f c i j) (poisson_depot_shop f c s i))).mean

-- the backorders of the shop unit i at base j
unfoldable pub poisson_base_shop : (f : ℕ) → CaseRows → List ℕ → ℕ → ℕ → Ends
poisson_base_shop f c s i j = poisson_at f (base_shop_mean f c s i j) (stock c s i j)

-- the mean of the line unit l's pipeline at base j
abbrev pub base_line_mean : (f : ℕ) → CaseRows → List ℕ → ℕ → ℕ → Ends
base_line_mean f c s l j =
    (base_line_ends f (pipeline_of f c s l j).direct (pipeline_of f c s l j).cap
    (fed f (share_of f c l j) (poisson_depot_line f c s l))
    (map (λ i. delay f (poisson_base_shop f c s i j)) (shop_units c l))).mean

-- the backorders of the line unit l at base j
unfoldable pub poisson_base_line : (f : ℕ) → CaseRows → List ℕ → ℕ → ℕ → Ends
poisson_base_line f c s l j = poisson_at f (base_line_mean f c s l j) (stock c s l j)

-- ---- by pair, and added up

-- the backorders of part p at site k
abbrev pub poisson_of : (f : ℕ) → CaseRows → List ℕ → ℕ → ℕ → Ends
poisson_of f c s p k =
    by_pair (λ l i. poisson_depot_shop f c s i) (poisson_depot_line f c s) (λ l i j. poisson_base_shop f c s i j)
    (poisson_base_line f c s)
    (line_of c.parts p) p k

-- weight times the backorders of the line unit l at base j
abbrev pub poisson_weighed : (f : ℕ) → CaseRows → List ℕ → ℕ → ℕ → Ends
poisson_weighed f c s l j = ends_times (poisson_of f c s l j) (weight c l)

-- the Poisson total of the family of the line unit l
abbrev pub poisson_family_total_of : (f : ℕ) → CaseRows → List ℕ → ℕ → Ends
poisson_family_total_of f c s l = fold ends_add (ends_exact f 0) (map (poisson_weighed f c s l) (bases c))

-- the sum of the families' totals, in order
abbrev pub poisson_total_of : (f : ℕ) → CaseRows → List ℕ → Ends
poisson_total_of f c s = fold ends_add (ends_exact f 0) (map (poisson_family_total_of f c s) (line_units c))
