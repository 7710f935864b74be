-- A family's evaluation depends on its own stocks and on the rates of its own parts alone.
use Rattle.std.proofs.Common.{◌≡◌, ℕ, zero, suc, ◌+◌, ◌-◌, ◌<◌, List, [], ◌∷◌, ◌++◌, length, map, Option, Some, None, refl, sym, ap, ap₂, subst, arith}
use Rattle.std.specs.Prelude.{flat_map}
use Rattle.std.specs.List.{range_with_len, AllByRecursion}
use Rattle.list_laws.proofs.Public.{all_follow, each_both, map_each}
use Rattle.fixed_interval.specs.Ends.{Ends, ends_exact, ends_times}
use Rattle.depot_pipeline.specs.declared.Feed.{Feed}
use Rattle.depot_pipeline.specs.Profile.{depot_shop_ends, depot_line_ends}
use Rattle.base_pipeline.specs.declared.Held.{Held}
use Rattle.base_pipeline.specs.Profile.{base_shop_ends, base_line_ends}
use Rattle.spares_input.specs.Frames.{line_of}
use Rattle.spares_input.specs.Cases.{CaseRows, IsCase}
use Rattle.spares_input.specs.Edits.{with_rate}
use Rattle.spares_input.specs.Stocks.{StockList}
use Rattle.spares_input.specs.declared.rows.RateRow.{RateRow}
use Rattle.fleet_model.specs.Rows.{shop_units, stock, weight}
use Rattle.fleet_model.specs.Pairs.{by_pair}
use Rattle.fleet_model.specs.Fleet.{family}
use Rattle.fleet_model.specs.Laws.{AgreeOnFamily}
use Rattle.demand_rates.specs.Rates.{pair_rates}
use Rattle.family_items.specs.declared.item.Item.{Item}
use Rattle.family_items.specs.declared.item.FamilyResult.{FamilyResult}
use Rattle.family_items.specs.Profile.{pipeline_from, share_of, stocked, feed_of, delay_of, depot_shop, depot_feed, depot_line, base_shop, base_line, item_of, part_items, weighed, family_of}
use Rattle.family_items.specs.Inputs.{IsLine, IsShop}
use Rattle.family_items.proofs.Public.{shops_all, added_same}
use Rattle.family_points.proofs.Public.{line_owner}

-- ---- lists

map_sites : {X : Type 0} (g h : ℕ → X) (n a m : ℕ) → a + n ≡ m → ((k : ℕ) → k < m → g k ≡ h k) → map g (range_with_len a n) ≡ map h (range_with_len a n)
map_sites g h zero a m e same = refl
map_sites {X} g h (suc n) a m e same = ap₂ (λ (y : X) (ys : List X). y ∷ ys) (same a (omega (arith, e))) (map_sites g h n (a + 1) m (omega (arith, e)) same)

flat_each : {X : Type 0} (g h : ℕ → List X) (xs : List ℕ) → AllByRecursion (λ i. g i ≡ h i) xs → flat_map g xs ≡ flat_map h xs
flat_each g h [] a = refl
flat_each {X} g h (x ∷ xs) a = ap₂ (λ (ys zs : List X). ys ++ zs) a.0 (flat_each g h xs a.1)

-- ---- the same items make the same evaluation

abbrev SameItems : (f : ℕ) → CaseRows → CaseRows → List ℕ → List ℕ → ℕ → Type 0
SameItems f c d s t l = AllByRecursion (λ p. (k : ℕ) → k < length c.sites → item_of f c s p k ≡ item_of f d t p k) (family c l)

same_family : (f : ℕ) (c : CaseRows) (rates : List RateRow) (s t : StockList) (l : ℕ)
    → (let d : CaseRows = record { sites = c.sites; parts = c.parts; rates = rates } in SameItems f c d s.list t.list l)
    → (let d : CaseRows = record { sites = c.sites; parts = c.parts; rates = rates } in family_of f c l s ≡ family_of f d l t)
same_family f c rates s t l h =
    let d : CaseRows = record { sites = c.sites; parts = c.parts; rates = rates } in
    ap₂ (λ (items : List (Item f)) (total : Ends). let r : FamilyResult f = record { items = items; total = total } in r)
    (flat_each (part_items f c s.list) (part_items f d t.list) (family c l)
    (all_follow (λ p. (k : ℕ) → k < length c.sites → item_of f c s.list p k ≡ item_of f d t.list p k) (λ p. part_items f c s.list p ≡ part_items f d t.list p) (family c l)
    (λ p e. map_sites (item_of f c s.list p) (item_of f d t.list p) (length c.sites) 0 (length c.sites) (omega arith) e) h))
    (added_same (ends_exact f 0) (weighed f c s.list l) (weighed f d t.list l) (length c.sites - 1)
    (λ j b. ap (λ (x : Item f). ends_times x.backorders (weight c l)) (h.0 (j + 1) (omega (arith, b)))))

-- a changed row
pub same_with_rate : (f : ℕ) (c : CaseRows) (r : RateRow) (l : ℕ) (s : StockList) → SameItems f c (with_rate c r) s.list s.list l → family_of f c l s ≡ family_of f (with_rate c r) l s
same_with_rate f c r l s h = same_family f c (with_rate c r).rates s s l h

-- ---- the family's stocks alone

module _ (f : ℕ) (c : CaseRows) (s t : List ℕ) (some : 0 < length c.sites) where
  abbrev Alike : ℕ → Type 0
  Alike p = (k : ℕ) → k < length c.sites → stock c s p k ≡ stock c t p k

  depot_shop_same : (i : ℕ) → Alike i → depot_shop f c s i ≡ depot_shop f c t i
  unfolding depot_shop
  depot_shop_same i h =
      ap (λ n. stocked f (pipeline_from f i 0 (pair_rates c i 0) n)
      (depot_shop_ends f (pipeline_from f i 0 (pair_rates c i 0) n).direct (pipeline_from f i 0 (pair_rates c i 0) n).cap)) (h 0 some)

  depot_line_same : (l : ℕ) → Alike l → AllByRecursion Alike (shop_units c l) → depot_line f c s l ≡ depot_line f c t l
  unfolding depot_line
  depot_line_same l h all =
      ap₂ (λ (n : ℕ) (feeds : List (Feed f)). stocked f (pipeline_from f l 0 (pair_rates c l 0) n)
      (depot_line_ends f (pipeline_from f l 0 (pair_rates c l 0) n).direct (pipeline_from f l 0 (pair_rates c l 0) n).cap feeds)) (h 0 some)
      (map_each (depot_feed f c s) (depot_feed f c t) (shop_units c l)
      (all_follow Alike _ (shop_units c l) (λ i a. ap (feed_of f (share_of f c i 0)) (depot_shop_same i a)) all))

  base_shop_same : (i j : ℕ) → j < length c.sites → Alike i → base_shop f c s i j ≡ base_shop f c t i j
  unfolding base_shop
  base_shop_same i j lj h =
      ap₂ (λ (n : ℕ) (y : Item f). stocked f (pipeline_from f i j (pair_rates c i j) n)
      (base_shop_ends f (pipeline_from f i j (pair_rates c i j) n).direct (pipeline_from f i j (pair_rates c i j) n).cap (feed_of f (share_of f c i j) y))) (h j lj)
      (depot_shop_same i h)

  base_line_same : (l j : ℕ) → j < length c.sites → Alike l → AllByRecursion Alike (shop_units c l) → base_line f c s l j ≡ base_line f c t l j
  unfolding base_line
  base_line_same l j lj h all =
      ap₂ (λ (n : ℕ) (rest : Item f × List (Held f)). stocked f (pipeline_from f l j (pair_rates c l j) n)
      (base_line_ends f (pipeline_from f l j (pair_rates c l j) n).direct (pipeline_from f l j (pair_rates c l j) n).cap (feed_of f (share_of f c l j) rest.0) rest.1))
      (h j lj)
      (ap₂ (λ (y : Item f) (held : List (Held f)). (y, held)) (depot_line_same l h all)
      (map_each (λ i. delay_of f (base_shop f c s i j)) (λ i. delay_of f (base_shop f c t i j)) (shop_units c l)
      (all_follow Alike _ (shop_units c l) (λ i a. ap (delay_of f) (base_shop_same i j lj a)) all)))

  -- of part p, whose line unit is o
  abbrev item_by : List ℕ → Option ℕ → ℕ → ℕ → Item f
  item_by u o p k = by_pair (λ l i. depot_shop f c u i) (depot_line f c u) (λ l i j. base_shop f c u i j) (base_line f c u) o p k

  shop_item : (l i k : ℕ) → k < length c.sites → Alike i → item_by s (Some l) i k ≡ item_by t (Some l) i k
  shop_item l i zero lk h = depot_shop_same i h
  shop_item l i (suc j) lk h = base_shop_same i (suc j) lk h

  line_item : (l k : ℕ) → k < length c.sites → Alike l → AllByRecursion Alike (shop_units c l) → item_by s None l k ≡ item_by t None l k
  line_item l zero lk h all = depot_line_same l h all
  line_item l (suc j) lk h all = base_line_same l (suc j) lk h all

  family_items : (l : ℕ) → line_of c.parts l ≡ None → AllByRecursion (λ i. line_of c.parts i ≡ Some l) (shop_units c l) → AllByRecursion Alike (family c l) → SameItems f c c s t l
  family_items l none owners h = (
    λ k lk. subst (λ o. item_by s o l k ≡ item_by t o l k) (sym none) (line_item l k lk h.0 h.1),
    each_both (λ i. line_of c.parts i ≡ Some l) Alike _ (shop_units c l) (λ i o a k lk. subst (λ x. item_by s x i k ≡ item_by t x i k) (sym o) (shop_item l i k lk a)) owners h.1,
  )

-- a family's evaluation depends on its own stocks alone
pub stocks_alone : (f : ℕ) (c : CaseRows) (l : ℕ) (s t : StockList) → IsCase c → IsLine c l → AgreeOnFamily c s.list t.list l → family_of f c l s ≡ family_of f c l t
stocks_alone f c l s t valid line h =
    let some : 0 < length c.sites = omega (arith, valid.frame.fewest_sites) in
    let owners = all_follow (IsShop c l) (λ i. line_of c.parts i ≡ Some l) (shop_units c l) (λ i (x : IsShop c l i). x.line_is) (shops_all c l valid line) in
    same_family f c c.rates s t l (family_items f c s.list t.list some l (line_owner c l line) owners h)
