-- What its level makes of a pair's pipeline.
use Rattle.std.proofs.Common.{◌≡◌, ℕ, zero, suc, Option, Some, ◌<◌, ◌≤◌, ◌+◌, List, ◌∷◌, length, get_or, map, replicate, refl, sym, ap, ap₂, ◌∙◌, subst, arith}
use Rattle.std.specs.List.{range_with_len}
use Rattle.std.proofs.lemmas.List.{length-map}
use Rattle.std.proofs.lemmas.Simd.{map-map}
use Rattle.fixed_interval.specs.Ends.{Ends, ends_add, ends_capped, ends_exact}
use Rattle.depot_pipeline.specs.declared.Moments.{Moments}
use Rattle.depot_pipeline.specs.declared.Feed.{Feed}
use Rattle.depot_pipeline.specs.Profile.{added, depot_line_ends, depot_shop_ends, feed_at, mean_part}
use Rattle.base_pipeline.specs.declared.Held.{Held}
use Rattle.base_pipeline.specs.Profile.{base_line_ends, base_shop_ends, delay_at}
use Rattle.fleet_model.specs.Rows.{shop_units, stock}
use Rattle.fleet_model.specs.Pairs.{by_pair}
use Rattle.spares_input.specs.Cases.{CaseRows, IsCase}
use Rattle.spares_input.specs.Frames.{line_of}
use Rattle.spares_input.specs.declared.rows.PartId.{PartId}
use Rattle.demand_rates.proofs.Public.{no_line_there}
use Rattle.moment_table.specs.Inputs.{CanTable}
use Rattle.family_items.specs.Inputs.{IsLine, IsPipeline, IsShopUnit}
use Rattle.family_items.specs.declared.pipeline.Pipeline.{Pipeline}
use Rattle.family_items.specs.Profile.{pipeline_of, share_of}
use Rattle.family_items.proofs.Public.{ids_few, shop_of, added_least, can_table}
use Rattle.metric_compare.specs.Levels.{of_shop}
use Rattle.metric_compare.specs.Profile.{poisson_at, poisson_base_line, poisson_base_shop, poisson_depot_feed, poisson_depot_line, poisson_depot_shop, fed, delay, poisson_of}

-- ---- tables

can_mean : (pipe : Pipeline 48) (m : Ends) → IsPipeline 48 pipe → pipe.direct.lo ≤ m.lo → CanTable 48 (ends_capped m pipe.cap) (ends_capped m pipe.cap)
can_mean pipe m valid lo = can_table 48 pipe m m valid lo

-- the capped mean of a line unit at the depot has a table with itself as the variance
pub depot_line_can : (pipe : Pipeline 48) (feeds : List (Feed 48)) (m : Moments 48) → IsPipeline 48 pipe
    → m ≡ depot_line_ends 48 pipe.direct pipe.cap feeds → CanTable 48 m.mean m.mean
depot_line_can pipe feeds m valid e =
    subst (λ (m : Moments 48). CanTable 48 m.mean m.mean) (sym e)
    (can_mean pipe (added pipe.direct (λ k. mean_part 48 (feed_at feeds k)) (length feeds)) valid
    (added_least pipe.direct (λ k. mean_part 48 (feed_at feeds k)) (length feeds)))

-- so does that of a line unit at a base
pub base_line_can : (pipe : Pipeline 48) (feed : Feed 48) (shops : List (Held 48)) (m : Moments 48) → IsPipeline 48 pipe
    → m ≡ base_line_ends 48 pipe.direct pipe.cap feed shops → CanTable 48 m.mean m.mean
base_line_can pipe feed shops m valid e =
    let first = ends_add pipe.direct (mean_part 48 feed) in
    subst (λ (m : Moments 48). CanTable 48 m.mean m.mean) (sym e)
    (can_mean pipe (added first (λ k. (delay_at shops k).backorders) (length shops)) valid
    (omega (arith, added_least first (λ k. (delay_at shops k).backorders) (length shops))))

-- so does that of a shop unit at the depot
pub depot_shop_can : (pipe : Pipeline 48) (m : Moments 48) → IsPipeline 48 pipe → m ≡ depot_shop_ends 48 pipe.direct pipe.cap → CanTable 48 m.mean m.mean
depot_shop_can pipe m valid e = subst (λ (m : Moments 48). CanTable 48 m.mean m.mean) (sym e) (can_mean pipe pipe.direct valid (omega arith))

-- and that of a shop unit at a base
pub base_shop_can : (pipe : Pipeline 48) (feed : Feed 48) (m : Moments 48) → IsPipeline 48 pipe → m ≡ base_shop_ends 48 pipe.direct pipe.cap feed
    → CanTable 48 m.mean m.mean
base_shop_can pipe feed m valid e =
    subst (λ (m : Moments 48). CanTable 48 m.mean m.mean) (sym e) (can_mean pipe (ends_add pipe.direct (mean_part 48 feed)) valid (omega arith))

-- ---- what a step computed is the definition's

-- what is computed of a shop unit at the depot are its Poisson backorders
pub depot_shop_is : (c : CaseRows) (s : List ℕ) (p : ℕ) (pipe : Pipeline 48) (m : Moments 48) (x : Ends) → pipe ≡ pipeline_of 48 c s p 0
    → m ≡ depot_shop_ends 48 pipe.direct pipe.cap → x ≡ poisson_at 48 m.mean pipe.stock → x ≡ poisson_depot_shop 48 c s p
unfolding poisson_depot_shop
depot_shop_is c s p pipe m x hp e h =
    h ∙ (λ t. poisson_at 48 (e t).mean pipe.stock)
    ∙ (λ t. poisson_at 48 (depot_shop_ends 48 (hp t).direct (hp t).cap).mean (hp t).stock)

-- what is computed of a shop unit at a base and the depot's feed are its Poisson backorders
pub base_shop_is : (c : CaseRows) (s : List ℕ) (p k : ℕ) (pipe : Pipeline 48) (share depot : Ends) (feed : Feed 48) (m : Moments 48) (x : Ends)
    → pipe ≡ pipeline_of 48 c s p k → share ≡ share_of 48 c p k → depot ≡ poisson_depot_shop 48 c s p → feed ≡ fed 48 share depot
    → m ≡ base_shop_ends 48 pipe.direct pipe.cap feed → x ≡ poisson_at 48 m.mean pipe.stock → x ≡ poisson_base_shop 48 c s p k
unfolding poisson_base_shop
base_shop_is c s p k pipe share depot feed m x hp hs hd hf e h =
    h ∙ (λ t. poisson_at 48 (e t).mean pipe.stock)
    ∙ (λ t. poisson_at 48 (base_shop_ends 48 (hp t).direct (hp t).cap (hf t)).mean (hp t).stock)
    ∙ (λ t. poisson_at 48 (base_shop_ends 48 (pipeline_of 48 c s p k).direct (pipeline_of 48 c s p k).cap (fed 48 (hs t) (hd t))).mean (stock c s p k))

-- what is computed of a line unit at the depot and the feeds of its shop units are its Poisson backorders
pub depot_line_is : (c : CaseRows) (s : List ℕ) (p : ℕ) (pipe : Pipeline 48) (feeds : List (Feed 48)) (m : Moments 48) (x : Ends)
    → pipe ≡ pipeline_of 48 c s p 0 → feeds ≡ map (poisson_depot_feed 48 c s) (shop_units c p) → m ≡ depot_line_ends 48 pipe.direct pipe.cap feeds
    → x ≡ poisson_at 48 m.mean pipe.stock → x ≡ poisson_depot_line 48 c s p
unfolding poisson_depot_line
depot_line_is c s p pipe feeds m x hp hf e h =
    h ∙ (λ t. poisson_at 48 (e t).mean pipe.stock)
    ∙ (λ t. poisson_at 48 (depot_line_ends 48 (hp t).direct (hp t).cap (hf t)).mean (hp t).stock)

-- what is computed of a line unit at a base, the depot's feed and what its shop units hold back there
-- are its Poisson backorders
pub base_line_is : (c : CaseRows) (s : List ℕ) (p k : ℕ) (pipe : Pipeline 48) (share depot : Ends) (feed : Feed 48) (shops : List (Held 48)) (m : Moments 48) (x : Ends)
    → pipe ≡ pipeline_of 48 c s p k → share ≡ share_of 48 c p k → depot ≡ poisson_depot_line 48 c s p → feed ≡ fed 48 share depot
    → shops ≡ map (λ i. delay 48 (poisson_base_shop 48 c s i k)) (shop_units c p) → m ≡ base_line_ends 48 pipe.direct pipe.cap feed shops
    → x ≡ poisson_at 48 m.mean pipe.stock → x ≡ poisson_base_line 48 c s p k
unfolding poisson_base_line
base_line_is c s p k pipe share depot feed shops m x hp hs hd hf hl e h =
    h ∙ (λ t. poisson_at 48 (e t).mean pipe.stock)
    ∙ (λ t. poisson_at 48 (base_line_ends 48 (hp t).direct (hp t).cap (hf t) (hl t)).mean (hp t).stock)
    ∙ (λ t. poisson_at 48 (base_line_ends 48 (pipeline_of 48 c s p k).direct (pipeline_of 48 c s p k).cap (fed 48 (hs t) (hd t))
    (map (λ i. delay 48 (poisson_base_shop 48 c s i k)) (shop_units c p))).mean (stock c s p k))

-- ---- which level a pair has

abbrev poisson_by : CaseRows → List ℕ → Option ℕ → ℕ → ℕ → Ends
poisson_by c s o p k = by_pair (λ l i. poisson_depot_shop 48 c s i) (poisson_depot_line 48 c s) (λ l i j. poisson_base_shop 48 c s i j) (poisson_base_line 48 c s) o p k

abbrev shop_by : CaseRows → List ℕ → Option ℕ → ℕ → ℕ → Ends
shop_by c s o p k = by_pair (λ l i. poisson_depot_shop 48 c s i) (λ l. ends_exact 48 0) (λ l i j. poisson_base_shop 48 c s i j) (λ l j. ends_exact 48 0) o p k

-- the number of a shop unit at a base is that of the third level
pub base_of_shop : (c : CaseRows) (s : List ℕ) (l p k : ℕ) → line_of c.parts p ≡ Some l → 0 < k → of_shop c s p k ≡ poisson_base_shop 48 c s p k
base_of_shop c s l p zero e h = absurd (omega arith)
base_of_shop c s l p (suc j) e h = ap (λ o. shop_by c s o p (suc j)) e

-- a shop unit has its own backorders, and a line unit none
pub shop_is_poisson : (c : CaseRows) (s : List ℕ) (l p k : ℕ) → line_of c.parts p ≡ Some l → of_shop c s p k ≡ poisson_of 48 c s p k
shop_is_poisson c s l p zero e = ap (λ o. shop_by c s o p 0) e ∙ ap (λ o. poisson_by c s o p 0) (sym e)
shop_is_poisson c s l p (suc j) e = ap (λ o. shop_by c s o p (suc j)) e ∙ ap (λ o. poisson_by c s o p (suc j)) (sym e)

line_none : (c : CaseRows) (s : List ℕ) (l k : ℕ) → IsLine c l → of_shop c s l k ≡ ends_exact 48 0
line_none c s l zero line = ap (λ o. shop_by c s o l 0) (no_line_there c.parts l line.no_parent)
line_none c s l (suc j) line = ap (λ o. shop_by c s o l (suc j)) (no_line_there c.parts l line.no_parent)

same_all : (g : ℕ → Ends) (d : Ends) (a n : ℕ) → ((k : ℕ) → g k ≡ d) → replicate n d ≡ map g (range_with_len a n)
same_all g d a zero h = refl
same_all g d a (suc n) h = ap₂ (λ (x : Ends) (xs : List Ends). x ∷ xs) (sym (h a)) (same_all g d (a + 1) n h)

-- a line unit has 0 at each site in the numbers of all shop units
pub nothing_row : (c : CaseRows) (s : List ℕ) (l n : ℕ) (x : Ends) → IsLine c l → x ≡ ends_exact 48 0 → n ≡ length c.sites
    → replicate n x ≡ map (of_shop c s l) (range_with_len 0 (length c.sites))
nothing_row c s l n x line hx hn =
    ap₂ (λ (m : ℕ) (y : Ends). replicate m y) hn hx ∙ same_all (of_shop c s l) (ends_exact 48 0) 0 (length c.sites) (λ k. line_none c s l k line)

-- the Poisson backorders of a line unit at a base are those of the fourth level
pub base_line_at_pair : (c : CaseRows) (s : List ℕ) (l k : ℕ) → IsLine c l → 0 < k → poisson_base_line 48 c s l k ≡ poisson_of 48 c s l k
base_line_at_pair c s l zero line h = absurd (omega arith)
base_line_at_pair c s l (suc j) line h = ap (λ o. poisson_by c s o l (suc j)) (sym (no_line_there c.parts l line.no_parent))

-- the same of the ids and of the shop units
pub by_ids : {X : Type 0} (c : CaseRows) (l : ℕ) (g : ℕ → X) (xs : List PartId) → map (λ (p : PartId). p.0) xs ≡ shop_units c l
    → map (λ (p : PartId). g p.0) xs ≡ map g (shop_units c l)
by_ids c l g xs e = sym (map-map g (λ (p : PartId). p.0) xs) ∙ ap (map g) e

-- those of a line unit are shop units, and few
pub units_are : (c : CaseRows) (l : ℕ) (xs : List PartId) → IsCase c → IsLine c l → map (λ (p : PartId). p.0) xs ≡ shop_units c l
    → (k : ℕ) (d : PartId) → k < length xs → IsShopUnit c (get_or xs k d).0
units_are c l xs valid line e k d h = record { line = l; is_shop = shop_of c l xs valid line e k d h }

-- with one entry for each shop unit of a line unit there are at most 8
pub few_of : {X : Type 0} (c : CaseRows) (l : ℕ) (g : PartId → X) (xs : List PartId) (ys : List X) → IsCase c → IsLine c l
    → map (λ (p : PartId). p.0) xs ≡ shop_units c l → ys ≡ map g xs → length ys ≤ 8
few_of {X} c l g xs ys valid line e h = omega (arith, ids_few c l xs valid line e, ap (λ (zs : List X). length zs) h, length-map xs g)
