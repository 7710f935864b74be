-- The tables that are kept are those of the case's items.
use Rattle.std.proofs.Common.{◌≡◌, ◌==◌, ℕ, zero, suc, ◌+◌, ◌-◌, ◌<◌, List, [], ◌∷◌, ◌++◌, length, get_or, map, flat_map, Some, position, unwrap_or, refl, sym, ap, ap₂, ◌∙◌, subst, arith, add-one}
use Rattle.std.specs.List.{range_with_len}
use Rattle.std.proofs.lemmas.List.{map_push}
use Rattle.std.proofs.lemmas.Simd.{map-map}
use Rattle.std.proofs.lemmas.List.Quantifiers.{position-Some}
use Rattle.list_laws.proofs.Public.{map_flat}
use Rattle.depot_pipeline.specs.declared.Moments.{Moments}
use Rattle.spares_input.specs.Cases.{CaseRows, IsCase}
use Rattle.spares_input.specs.Stocks.{IsFor, StockList, stock_at}
use Rattle.fleet_model.specs.Rows.{shop_units, stock}
use Rattle.fleet_model.specs.Fleet.{family}
use Rattle.fleet_model.proofs.Public.{stock_holds}
use Rattle.demand_rates.specs.Rates.{pair_rates}
use Rattle.family_items.specs.declared.item.Item.{Item}
use Rattle.family_items.specs.Inputs.{IsLine}
use Rattle.family_items.specs.Profile.{base_shop, depot_line, depot_shop, item_of, part_items, pipeline_from, pipeline_of, stocked}
use Rattle.family_items.proofs.Public.{base_shop_item, depot_line_item, depot_shop_item, shop_at}
use Rattle.family_numbers.specs.Numbers.{moments_of}
use Rattle.family_tables.specs.Kept.{Evaluation, depot_stocks, key_at, key_item, key_stocks, keys_of, moments_at, shop_key, table_kept}
use Rattle.family_numbers.specs.Numbers.{FamilyNumbers, family_stocks, numbers_of, rows_of, shop_numbers}
use Rattle.family_numbers.proofs.Public.{base_shop_made, depot_line_made, depot_shop_made, shops_numbered}

module _ (f : ℕ) (c : CaseRows) (l : ℕ) (valid : IsCase c) (line : IsLine c l) (s : List ℕ) (o : ℕ) (d : List ℕ) (has : family_stocks c l s 0 ≡ o ∷ d) where
  -- the pipeline of a place at a site is that of the item there
  item_moments : (i k : ℕ) → i < length (family c l) → k < length c.sites → (i ≡ 0 → k ≡ 0)
      → moments_at f (numbers_of f c l) i k (key_stocks i k d) ≡ moments_of (item_of f c s (get_or (family c l) i 0) k)
  item_moments zero zero h m only = depot_line_made f c l s m o d has ∙ ap moments_of (depot_line_item f c s l line)
  item_moments zero (suc k) h m only = absurd (omega (arith, only refl))
  item_moments (suc i) zero h m only =
      let w : i < length (shop_units c l) = omega (arith, h) in
      depot_shop_made f c l s m o d has i w ∙ ap moments_of (depot_shop_item f c s l (get_or (shop_units c l) i 0) (shop_at c l i valid line w).line_is)
  item_moments (suc i) (suc k) h m only =
      let w : i < length (shop_units c l) = omega (arith, h) in
      base_shop_made f c l s (omega (arith, m)) o d has i (suc k) w m
      ∙ ap moments_of (base_shop_item f c s l (get_or (shop_units c l) i 0) (suc k) (shop_at c l i valid line w).line_is (omega arith))

  -- the rows of a kept table are those of the item of its part at its site
  pub kept_item : (e : Evaluation f) (p i k : ℕ) → e.numbers ≡ numbers_of f c l → position (λ q. q == p) (family c l) ≡ Some i → k < length c.sites → (i ≡ 0 → k ≡ 0)
      → (table_kept f e p k (key_stocks i k d)).rows ≡ rows_of f (moments_of (item_of f c s p k))
  kept_item e p i k en at m only =
      let found = position-Some (λ q. q == p) (family c l) i 0 at in
      let same : get_or (family c l) i 0 ≡ p = grind (arith, found) in
      ap (λ (x : FamilyNumbers f). rows_of f (moments_at f x (unwrap_or (position (λ q. q == p) x.parts) 0) k (key_stocks i k d))) en
      ∙ ap (λ z. rows_of f (moments_at f (numbers_of f c l) (unwrap_or z 0) k (key_stocks i k d))) at
      ∙ ap (rows_of f) (item_moments i k found.0 m only)
      ∙ ap (λ q. rows_of f (moments_of (item_of f c s q k))) same

-- ---- the items of keys

map_same : {X : Type 0} (h g : ℕ → X) (a n : ℕ) → ((k : ℕ) → k < n → h (a + k) ≡ g (a + k)) → map h (range_with_len a n) ≡ map g (range_with_len a n)
map_same h g a zero e = refl
map_same {X} h g a (suc n) e =
    let first : a + 0 ≡ a = omega arith in
    ap₂ (λ (y : X) (ys : List X). y ∷ ys) (subst (λ m. h m ≡ g m) first (e 0 (omega arith)))
    (map_same h g (a + 1) n (λ k l. let next : a + suc k ≡ a + 1 + k = omega arith in subst (λ m. h m ≡ g m) next (e (suc k) (omega (arith, l)))))

flat_numbered : {X : Type 0} (h g : ℕ → List X) (a : ℕ) (xs : List ℕ) → ((n : ℕ) → n < length xs → h (a + n) ≡ g (get_or xs n 0))
    → flat_map h (range_with_len a (length xs)) ≡ flat_map g xs
flat_numbered h g a [] e = refl
flat_numbered {X} h g a (x ∷ xs) e =
    let first : a + 0 ≡ a = omega arith in
    ap₂ (λ (y z : List X). y ++ z) (ap h (sym first) ∙ e 0 (omega arith))
    (flat_numbered h g (a + 1) xs (λ n l. let next : a + 1 + n ≡ a + suc n = omega arith in ap h next ∙ e (suc n) (omega (arith, l))))

module _ (f : ℕ) (c : CaseRows) (l : ℕ) (valid : IsCase c) (line : IsLine c l) (s : StockList) (for : IsFor c s) where
  -- an item is its pipeline with its backorders at its stock
  item_again : (i k : ℕ) → i < length (family c l) → k < length c.sites → (i ≡ 0 → k ≡ 0)
      → item_of f c s.list (get_or (family c l) i 0) k
      ≡ stocked f (pipeline_of f c s.list (get_or (family c l) i 0) k) (moments_of (item_of f c s.list (get_or (family c l) i 0) k))
  unfolding stocked depot_shop depot_line base_shop
  item_again zero zero h m only = subst (λ (y : Item f). y ≡ stocked f (pipeline_of f c s.list l 0) (moments_of y)) (depot_line_item f c s.list l line) refl
  item_again zero (suc k) h m only = absurd (omega (arith, only refl))
  item_again (suc i) zero h m only =
      let p = get_or (shop_units c l) i 0 in
      subst (λ (y : Item f). y ≡ stocked f (pipeline_of f c s.list p 0) (moments_of y))
      (depot_shop_item f c s.list l p (shop_at c l i valid line (omega (arith, h))).line_is) refl
  item_again (suc i) (suc k) h m only =
      let p = get_or (shop_units c l) i 0 in
      subst (λ (y : Item f). y ≡ stocked f (pipeline_of f c s.list p (suc k)) (moments_of y))
      (base_shop_item f c s.list l p (suc k) (shop_at c l i valid line (omega (arith, h))).line_is (omega arith)) refl

  depot_has : family_stocks c l s.list 0 ≡ stock c s.list l 0 ∷ depot_stocks (numbers_of f c l) s
  depot_has =
      ap (λ (d : List ℕ). stock c s.list l 0 ∷ d)
      (sym (shops_numbered f c l (λ i. stock_at s (get_or (family c l) (i + 1) 0) 0) (λ p. stock c s.list p 0)
      (λ n h. ap (λ i. stock_at s (get_or (family c l) i 0) 0) (add-one n) ∙ sym (stock_holds c s (get_or (shop_units c l) n 0) 0 for))))

  key_item_is : (i k : ℕ) → i < length (family c l) → k < length c.sites → (i ≡ 0 → k ≡ 0)
      → key_item f (numbers_of f c l) s (key_at i k (key_stocks i k (depot_stocks (numbers_of f c l) s))) ≡ item_of f c s.list (get_or (family c l) i 0) k
  unfolding stocked
  key_item_is i k h m only =
      let p = get_or (family c l) i 0 in
      ap₂ (λ (n : ℕ) (y : Moments f). stocked f (pipeline_from f p k (pair_rates c p k) n) y) (sym (stock_holds c s p k for))
      (item_moments f c l valid line s.list (stock c s.list l 0) (depot_stocks (numbers_of f c l) s) depot_has i k h m only)
      ∙ sym (item_again i k h m only)

  -- the items of the keys of stocks are those of the shop units and, last, the line unit's at the depot
  items_from : map (key_item f (numbers_of f c l) s) (keys_of (numbers_of f c l) (depot_stocks (numbers_of f c l) s))
      ≡ flat_map (part_items f c s.list) (shop_units c l) ++ item_of f c s.list l 0 ∷ []
  items_from =
      let x = numbers_of f c l in
      let d = depot_stocks x s in
      let g = key_item f x s in
      let keys = λ (i : ℕ). map (shop_key d i) (range_with_len 0 (length c.sites)) in
      let count : length (family c l) - 1 ≡ length (shop_units c l) = omega arith in
      map_push g (flat_map keys (shop_numbers x)) (key_at 0 0 d)
      ∙ ap₂ (λ (a : List (Item f)) (b : Item f). a ++ b ∷ [])
      (map_flat g keys (shop_numbers x)
      ∙ ap (λ n. flat_map (λ i. map g (keys i)) (range_with_len 0 n)) count
      ∙ flat_numbered (λ i. map g (keys i)) (part_items f c s.list) 0 (shop_units c l)
      (λ i h. map-map g (shop_key d (0 + i)) (range_with_len 0 (length c.sites))
      ∙ map_same (λ k. g (shop_key d (0 + i) k)) (item_of f c s.list (get_or (shop_units c l) i 0)) 0 (length c.sites)
      (λ k m. let same : 0 + i ≡ i = omega arith in let here : 0 + k ≡ k = omega arith in
      ap₂ (λ (a b : ℕ). g (shop_key d a b)) same here
      ∙ key_item_is (suc i) k (omega (arith, h)) m (λ e. absurd (omega (arith, e)))
      ∙ ap (item_of f c s.list (get_or (shop_units c l) i 0)) (sym here))))
      (key_item_is 0 0 (omega arith) (omega (arith, valid.frame.fewest_sites)) (λ e. refl))

-- the same where the numbers of the family stand for themselves
pub items_are : (f : ℕ) (c : CaseRows) (l : ℕ) (s : StockList) (x : FamilyNumbers f) → IsCase c → IsLine c l → IsFor c s → x ≡ numbers_of f c l
    → map (key_item f x s) (keys_of x (depot_stocks x s)) ≡ flat_map (part_items f c s.list) (shop_units c l) ++ item_of f c s.list l 0 ∷ []
items_are f c l s x valid line for e =
    ap (λ (y : FamilyNumbers f). map (key_item f y s) (keys_of y (depot_stocks y s))) e ∙ items_from f c l valid line s for
