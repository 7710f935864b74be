-- The items of the families are those of all pairs.
use Rattle.std.proofs.Common.{◌≡◌, ℕ, zero, suc, ◌+◌, ◌*◌, ◌/◌, ◌%◌, ◌<◌, true, false, List, length, replicate, bytes_eq, Option, Some, None, is_none, IfSome, refl, sym, ap, ap₂, ◌∙◌, subst, arith}
use Rattle.std.specs.Prelude.{flat_map, slice_set}
use Rattle.std.specs.List.{fold}
use Rattle.std.specs.Option.{option_map_or}
use Rattle.std.proofs.Math.Nat.{div-lt_iff_lt-mul}
use Rattle.std.proofs.lemmas.Nat.{div-mul-add, mod-mul-add, mul-add-lt, div-add-mod'}
use Rattle.std.proofs.lemmas.List.{ext_get_or, length-replicate}
use Rattle.std.proofs.lemmas.List.Folds.{flat_map-map}
use Rattle.std.proofs.lemmas.List.FromFn.{get_or-map-range_with_len, length-map-range_with_len}
use Rattle.spares_input.specs.Rows.{is_line}
use Rattle.spares_input.specs.Frames.{part_at, line_of, is_shop_of}
use Rattle.spares_input.specs.Pairs.{pair_place}
use Rattle.spares_input.specs.Cases.{CaseRows, IsCase, frame_rows, pair_count}
use Rattle.fleet_model.specs.Rows.{line_units, shop_units, stock}
use Rattle.fleet_model.specs.Pairs.{by_pair}
use Rattle.fleet_model.specs.Fleet.{family}
use Rattle.fleet_model.proofs.Public.{HasLine, has_families}
use Rattle.family_items.specs.declared.item.Item.{Item}
use Rattle.family_items.specs.declared.item.FamilyResult.{FamilyResult}
use Rattle.family_items.specs.Profile.{stocked, depot_shop, depot_line, base_shop, base_line, item_of, part_items, family_of, families_of}
use Rattle.family_items.specs.Encloses.{no_item}
use Rattle.case_figures.specs.Figures.{item_at_place, all_items}
use Rattle.case_figures.specs.Gathering.{item_place, items_by_pair}
use Rattle.case_figures.proofs.Placing.{IsAt, Keeps, Fills, keeps_map, fills_map, keeps_both, keeps_each, fills_first, fills_later, fills_each}

-- ---- an item has its pair and the pair's stock

pub record HasPairOf (f : ℕ) (c : CaseRows) (s : List ℕ) (p k : ℕ) (x : Item f) : Type 0 where
  pub part_is : x.part.0 ≡ p
  pub site_is : x.site.0 ≡ k
  pub stock_is : x.stock ≡ stock c s p k

item_by : (f : ℕ) (c : CaseRows) (s : List ℕ) (p k : ℕ) (o : Option ℕ)
    → HasPairOf f c s p k (by_pair (λ l i. depot_shop f c s i) (depot_line f c s) (λ l i j. base_shop f c s i j) (base_line f c s) o p k)
unfolding stocked depot_shop depot_line base_shop base_line
item_by f c s p zero (Some l) = record { part_is = refl; site_is = refl; stock_is = refl }
item_by f c s p zero None = record { part_is = refl; site_is = refl; stock_is = refl }
item_by f c s p (suc j) (Some l) = record { part_is = refl; site_is = refl; stock_is = refl }
item_by f c s p (suc j) None = record { part_is = refl; site_is = refl; stock_is = refl }

-- an item bears its part, its site and their stock
pub item_pair : (f : ℕ) (c : CaseRows) (s : List ℕ) (p k : ℕ) → HasPairOf f c s p k (item_of f c s p k)
item_pair f c s p k = item_by f c s p k (line_of c.parts p)

-- ---- the place of a pair

-- the item at the place of a pair is that of the pair
pub at_place : (f : ℕ) (c : CaseRows) (s : List ℕ) (p k : ℕ) → k < length c.sites
    → item_at_place f c s (pair_place (length c.sites) p k) ≡ item_of f c s p k
at_place f c s p k h =
    ap₂ (item_of f c s) (div-mul-add p (length c.sites) k h) (mod-mul-add p (length c.sites) k h)

pub place_is : (f : ℕ) (c : CaseRows) (s : List ℕ) (p k : ℕ) → item_place c (item_of f c s p k) ≡ pair_place (length c.sites) p k
place_is f c s p k =
    let h = item_pair f c s p k in ap₂ (λ (a b : ℕ). a * length c.sites + b) h.part_is h.site_is

-- the place of a pair of the case is below the number of its pairs
pub pair_within : (c : CaseRows) (p k : ℕ) → p < length c.parts → k < length c.sites → pair_place (length c.sites) p k < pair_count (frame_rows c)
pair_within c p k h l = omega (arith, mul-add-lt p (length c.sites) k (length c.parts) h l)

module _ (f : ℕ) (c : CaseRows) (s : List ℕ) (valid : IsCase c) where
  abbrev ItemIsAt : Item f → Type 0
  ItemIsAt x = IsAt (item_place c) (item_at_place f c s) (pair_count (frame_rows c)) (no_item f) x

  abbrev ItemsKeep : List (Item f) → Type 0
  ItemsKeep xs = Keeps (item_place c) (item_at_place f c s) (pair_count (frame_rows c)) (no_item f) xs

  abbrev ItemsFill : ℕ → List (Item f) → Type 0
  ItemsFill i xs = Fills (item_place c) (item_at_place f c s) (pair_count (frame_rows c)) (no_item f) i xs

  item_is_at : (p k : ℕ) → p < length c.parts → k < length c.sites → ItemIsAt (item_of f c s p k)
  item_is_at p k h l = record {
    is = sym (ap (item_at_place f c s) (place_is f c s p k) ∙ at_place f c s p k l);
    within = omega (arith, pair_within c p k h l, place_is f c s p k);
  }

  part_keeps : (p : ℕ) → p < length c.parts → ItemsKeep (part_items f c s p)
  part_keeps p h = keeps_map _ _ _ _ (item_of f c s p) (length c.sites) 0 (λ k l. item_is_at p k h (omega arith))

  part_fills : (p k : ℕ) → p < length c.parts → k < length c.sites → ItemsFill (pair_place (length c.sites) p k) (part_items f c s p)
  part_fills p k h l =
      subst (λ i. ItemsFill i (part_items f c s p)) (place_is f c s p k)
      (fills_map _ _ _ _ (item_of f c s p) (length c.sites) 0 k (λ j q. item_is_at p j h (omega arith)) (omega arith) (omega arith))

  abbrev family_items : ℕ → List (Item f)
  family_items l = flat_map (part_items f c s) (family c l)

  shops_keep : (l : ℕ) → ItemsKeep (flat_map (part_items f c s) (shop_units c l))
  shops_keep l =
      keeps_each _ _ _ _ (part_items f c s) (λ p. is_shop_of (part_at c.parts l) (part_at c.parts p)) (length c.parts) 0
      (λ p q e. part_keeps p (omega arith))

  family_keeps : (l : ℕ) → l < length c.parts → ItemsKeep (family_items l)
  family_keeps l h = keeps_both _ _ _ _ (part_items f c s l) (flat_map (part_items f c s) (shop_units c l)) (part_keeps l h) (shops_keep l)

  abbrev families_items : List (Item f)
  families_items = flat_map family_items (line_units c)

  families_keep : ItemsKeep families_items
  families_keep =
      keeps_each _ _ _ _ family_items (λ p. is_line (part_at c.parts p)) (length c.parts) 0 (λ l q e. family_keeps l (omega arith))

  in_line : (i l : ℕ) → l < length c.parts → is_line (part_at c.parts l) ≡ true → ItemsFill i (family_items l) → ItemsFill i families_items
  in_line i l h e g =
      fills_each _ _ _ _ i family_items (λ p. is_line (part_at c.parts p)) (length c.parts) 0 l (λ j q t. family_keeps j (omega arith))
      (omega arith) (omega arith) e g

  of_line : (p k : ℕ) → p < length c.parts → k < length c.sites → ItemsFill (pair_place (length c.sites) p k) (family_items p)
  of_line p k h l =
      fills_first _ _ _ _ (pair_place (length c.sites) p k) (part_items f c s p) (flat_map (part_items f c s) (shop_units c p))
      (part_fills p k h l) (part_keeps p h) (shops_keep p)

  of_shop : (p k l : ℕ) → p < length c.parts → k < length c.sites → l < length c.parts → is_shop_of (part_at c.parts l) (part_at c.parts p) ≡ true
      → ItemsFill (pair_place (length c.sites) p k) (family_items l)
  of_shop p k l h m q e =
      fills_later _ _ _ _ (pair_place (length c.sites) p k) (part_items f c s l) (flat_map (part_items f c s) (shop_units c l)) (part_keeps l q)
      (fills_each _ _ _ _ (pair_place (length c.sites) p k) (part_items f c s) (λ i. is_shop_of (part_at c.parts l) (part_at c.parts i))
      (length c.parts) 0 p (λ j r t. part_keeps j (omega arith)) (omega arith) (omega arith) e (part_fills p k h m))

  by_parent : (p k : ℕ) (o : Option (List ℕ)) → p < length c.parts → k < length c.sites → (part_at c.parts p).parent ≡ o
      → IfSome o (λ name. HasLine c name) → ItemsFill (pair_place (length c.sites) p k) families_items
  by_parent p k None h l e line =
      in_line (pair_place (length c.sites) p k) p h (ap is_none e) (of_line p k h l)
  by_parent p k (Some name) h l e line =
      in_line (pair_place (length c.sites) p k) line.line line.is_part (ap is_none line.no_parent)
      (of_shop p k line.line h l line.is_part
      (ap (λ (o : Option (List ℕ)). option_map_or (bytes_eq (part_at c.parts line.line).name) o false) e ∙ line.named))

  pub pair_fills : (p k : ℕ) → p < length c.parts → k < length c.sites → ItemsFill (pair_place (length c.sites) p k) families_items
  pair_fills p k h l =
      by_parent p k (part_at c.parts p).parent h l refl ((has_families c valid).parent_of p h)

  some_sites : 0 < length c.sites
  some_sites = omega (arith, valid.frame.fewest_sites)

  place_fills : (i : ℕ) → i < pair_count (frame_rows c) → ItemsFill i families_items
  place_fills i h =
      subst (λ j. ItemsFill j families_items) (div-add-mod' i (length c.sites))
      (pair_fills (i / length c.sites) (i % length c.sites) ((div-lt_iff_lt-mul some_sites).1 h) (omega (arith, some_sites)))

  -- the fold over all items leaves each place with its item
  pub placed_all : (n : ℕ) → items_by_pair c (families_of f c (record { sites = n; list = s })) ≡ all_items f c s
  placed_all n =
      let count = pair_count (frame_rows c) in
      let start = replicate count (no_item f) in
      let sized : length start ≡ count = length-replicate count (no_item f) in
      let there = families_keep.length_is start ∙ sized in
      ap (λ (xs : List (Item f)). fold (λ (ys : List (Item f)) (x : Item f). slice_set ys (item_place c x) x) start xs)
      (flat_map-map (λ (r : FamilyResult f). r.items) (λ l. family_of f c l (record { sites = n; list = s })) (line_units c))
      ∙ ext_get_or (no_item f) _ (all_items f c s) (there ∙ sym (length-map-range_with_len (item_at_place f c s) 0 count))
      (λ i h. (place_fills i (omega (arith, h, there))).fills start sized
      ∙ sym (get_or-map-range_with_len (item_at_place f c s) 0 count i i (no_item f) (omega (arith, h, there)) (omega arith)))
