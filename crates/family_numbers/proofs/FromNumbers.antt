-- The levels from a family's numbers are those of the case.
use Rattle.std.proofs.Common.{◌≡◌, ℕ, suc, ◌+◌, ◌-◌, ◌<◌, ◌≤◌, List, [], ◌∷◌, length, get_or, map, refl, sym, ap, ap₂, ◌∙◌, arith, add-one}
use Rattle.std.specs.List.{range_with_len}
use Rattle.std.proofs.lemmas.List.{get_or-map}
use Rattle.list_laws.proofs.Public.{flat_at}
use Rattle.fixed_interval.specs.Ends.{Ends}
use Rattle.moment_table.specs.Rows.{at_stock}
use Rattle.depot_pipeline.specs.declared.Moments.{Moments}
use Rattle.depot_pipeline.specs.declared.Feed.{Feed}
use Rattle.depot_pipeline.specs.Profile.{depot_shop_ends, depot_line_ends, capped_at}
use Rattle.base_pipeline.specs.declared.Held.{Held}
use Rattle.base_pipeline.specs.Profile.{base_shop_ends, base_line_ends}
use Rattle.spares_input.specs.Cases.{CaseRows}
use Rattle.fleet_model.specs.Rows.{shop_units, stock}
use Rattle.fleet_model.specs.Fleet.{family}
use Rattle.family_items.specs.declared.item.Item.{Item}
use Rattle.family_numbers.specs.declared.numbers.PairNumbers.{PairNumbers}
use Rattle.family_items.specs.Inputs.{HasTable, IsLine}
use Rattle.family_numbers.specs.Numbers.{ArePairNumbers, nth_stock, base_backorders, base_delays, base_shop_moments, base_shop_row, depot_feeds, depot_line_moments, depot_line_row, depot_shop_moments, depot_shop_row, family_stocks, feed_from, delay_from, numbers_of, no_numbers, pair_at, pair_numbers, rows_of}
use Rattle.family_numbers.specs.Numbers.{moments_of}
use Rattle.family_items.specs.Profile.{base_line, base_shop, depot_feed, depot_line, depot_shop, feed_of, delay_of, item_of, share_of, stocked}
use Rattle.family_items.proofs.Public.{base_line_item, can_capped}

-- a mean that begins at or above a pair's direct part has a table once it is capped
pub can_rows : (f : ℕ) (x : PairNumbers f) (m v : Ends) → ArePairNumbers f x → x.direct.lo ≤ m.lo → HasTable f (capped_at f x.cap m v)
can_rows f x m v h l = can_capped f x.cap x.direct m v h.some h.order h.cap_most l

-- what stands at the numbers of a list, by its elements
pub map_numbered : {X : Type 0} (h g : ℕ → X) (a : ℕ) (xs : List ℕ) → ((n : ℕ) → n < length xs → h (a + n) ≡ g (get_or xs n 0)) → map h (range_with_len a (length xs)) ≡ map g xs
map_numbered h g a [] e = refl
map_numbered {X} h g a (x ∷ xs) e =
    let first : a + 0 ≡ a = omega arith in
    ap₂ (λ (y : X) (ys : List X). y ∷ ys) (ap h (sym first) ∙ e 0 (omega arith))
    (map_numbered h g (a + 1) xs (λ n l. let next : a + 1 + n ≡ a + suc n = omega arith in ap h next ∙ e (suc n) (omega (arith, l))))

module _ (f : ℕ) (c : CaseRows) (l : ℕ) where
  line_pair : (k : ℕ) → k < length c.sites → pair_at (numbers_of f c l) 0 k ≡ pair_numbers f c l k
  line_pair k m = flat_at (pair_numbers f c) (length c.sites) (no_numbers f) (family c l) 0 k (omega arith) m

  shop_pair : (i k : ℕ) → i < length (shop_units c l) → k < length c.sites → pair_at (numbers_of f c l) (i + 1) k ≡ pair_numbers f c (get_or (shop_units c l) i 0) k
  shop_pair i k h m =
      ap (λ n. pair_at (numbers_of f c l) n k) (add-one i)
      ∙ flat_at (pair_numbers f c) (length c.sites) (no_numbers f) (family c l) (suc i) k (omega (arith, h)) m

  -- what stands at the numbers of the shop units, by the shop units
  pub shops_numbered : {X : Type 0} (h g : ℕ → X) → ((n : ℕ) → n < length (shop_units c l) → h n ≡ g (get_or (shop_units c l) n 0))
      → map h (range_with_len 0 (length (family c l) - 1)) ≡ map g (shop_units c l)
  shops_numbered h g e =
      let count : length (family c l) - 1 ≡ length (shop_units c l) = omega arith in
      ap (λ n. map h (range_with_len 0 n)) count
      ∙ map_numbered h g 0 (shop_units c l) (λ n k. let same : 0 + n ≡ n = omega arith in ap h same ∙ e n k)

  module _ (s : List ℕ) (some : 0 < length c.sites) (o : ℕ) (d : List ℕ) (has : family_stocks c l s 0 ≡ o ∷ d) where
    depot_own : o ≡ stock c s l 0
    depot_own = ap (λ v. get_or v 0 0) (sym has)

    depot_stock : (i : ℕ) → i < length (shop_units c l) → nth_stock d i ≡ stock c s (get_or (shop_units c l) i 0) 0
    depot_stock i h = ap (λ v. get_or v (suc i) 0) (sym has) ∙ get_or-map (λ p. stock c s p 0) (shop_units c l) i 0 0 h

    fed : (i k : ℕ) → i < length (shop_units c l) → k < length c.sites
        → feed_from f (pair_at (numbers_of f c l) (i + 1) k).share (depot_shop_row f (numbers_of f c l) i (nth_stock d i))
        ≡ feed_of f (share_of f c (get_or (shop_units c l) i 0) k) (depot_shop f c s (get_or (shop_units c l) i 0))
    unfolding depot_shop stocked
    fed i k h m =
        ap₂ (feed_from f) (ap (λ (w : PairNumbers f). w.share) (shop_pair i k h m))
        (ap₂ (λ (w : PairNumbers f) (n : ℕ). at_stock (rows_of f (depot_shop_ends f w.direct w.cap)) n) (shop_pair i 0 h some) (depot_stock i h))

    feeds : depot_feeds f (numbers_of f c l) d ≡ map (depot_feed f c s) (shop_units c l)
    feeds = shops_numbered _ (depot_feed f c s) (λ n h. fed n 0 h some)

    line_fed : (k : ℕ) → k < length c.sites
        → feed_from f (pair_at (numbers_of f c l) 0 k).share (depot_line_row f (numbers_of f c l) d o) ≡ feed_of f (share_of f c l k) (depot_line f c s l)
    unfolding depot_line stocked
    line_fed k m =
        ap₂ (feed_from f) (ap (λ (w : PairNumbers f). w.share) (line_pair k m))
        (ap₂ (λ (y : Moments f) (n : ℕ). at_stock (rows_of f y) n)
        (ap₂ (λ (w : PairNumbers f) (z : List (Feed f)). depot_line_ends f w.direct w.cap z) (line_pair 0 some) feeds) depot_own)

    -- the pipeline of a shop unit at the depot is that of its item
    pub depot_shop_made : (i : ℕ) → i < length (shop_units c l) → depot_shop_moments f (numbers_of f c l) i ≡ moments_of (depot_shop f c s (get_or (shop_units c l) i 0))
    unfolding depot_shop stocked
    depot_shop_made i h = ap (λ (w : PairNumbers f). depot_shop_ends f w.direct w.cap) (shop_pair i 0 h some)

    -- and so is the line unit's there
    pub depot_line_made : depot_line_moments f (numbers_of f c l) d ≡ moments_of (depot_line f c s l)
    unfolding depot_line stocked
    depot_line_made = ap₂ (λ (w : PairNumbers f) (z : List (Feed f)). depot_line_ends f w.direct w.cap z) (line_pair 0 some) feeds

    -- and a shop unit's at a base
    pub base_shop_made : (i k : ℕ) → i < length (shop_units c l) → k < length c.sites
        → base_shop_moments f (numbers_of f c l) i k (nth_stock d i) ≡ moments_of (base_shop f c s (get_or (shop_units c l) i 0) k)
    unfolding base_shop stocked
    base_shop_made i k h m = ap₂ (λ (w : PairNumbers f) (z : Feed f). base_shop_ends f w.direct w.cap z) (shop_pair i k h m) (fed i k h m)

    module _ (k : ℕ) (inside : k < length c.sites) (b : List ℕ) (own : ℕ) (at : family_stocks c l s k ≡ own ∷ b) where
      base_own : own ≡ stock c s l k
      base_own = ap (λ v. get_or v 0 0) (sym at)

      base_stock : (i : ℕ) → i < length (shop_units c l) → nth_stock b i ≡ stock c s (get_or (shop_units c l) i 0) k
      base_stock i h = ap (λ v. get_or v (suc i) 0) (sym at) ∙ get_or-map (λ p. stock c s p k) (shop_units c l) i 0 0 h

      delay : (i : ℕ) → i < length (shop_units c l)
          → delay_from f (base_shop_row f (numbers_of f c l) i k (nth_stock d i) (nth_stock b i)) ≡ delay_of f (base_shop f c s (get_or (shop_units c l) i 0) k)
      unfolding base_shop stocked
      delay i h =
          ap (delay_from f)
          (ap₂ (λ (y : Moments f) (n : ℕ). at_stock (rows_of f y) n)
          (ap₂ (λ (w : PairNumbers f) (z : Feed f). base_shop_ends f w.direct w.cap z) (shop_pair i k h inside) (fed i k h inside)) (base_stock i h))

      delays : base_delays f (numbers_of f c l) k d b ≡ map (λ i. delay_of f (base_shop f c s i k)) (shop_units c l)
      delays = shops_numbered _ (λ i. delay_of f (base_shop f c s i k)) (λ n h. delay n h)

      pub line_at_base : base_backorders f (numbers_of f c l) k o d b own ≡ (base_line f c s l k).backorders
      unfolding base_line stocked
      line_at_base =
          ap₂ (λ (y : Moments f) (n : ℕ). (at_stock (rows_of f y) n).ebo)
          (ap₂ (λ (w : PairNumbers f) (z : Feed f × List (Held f)). base_line_ends f w.direct w.cap z.0 z.1) (line_pair k inside)
          (ap₂ (λ (u : Feed f) (z : List (Held f)). (u, z)) (line_fed k inside) delays))
          base_own

-- the backorders of the line unit at a base, from the numbers of the family and its stocks at the depot and at that base
pub backorders_alone : (f : ℕ) (c : CaseRows) (l k : ℕ) (s : List ℕ) (o : ℕ) (d : List ℕ) (own : ℕ) (b : List ℕ) → IsLine c l → 0 < k → k < length c.sites
    → family_stocks c l s 0 ≡ o ∷ d → family_stocks c l s k ≡ own ∷ b
    → (item_of f c s l k).backorders ≡ base_backorders f (numbers_of f c l) k o d b own
backorders_alone f c l k s o d own b line base inside has at =
    ap (λ (x : Item f). x.backorders) (sym (base_line_item f c s l k line base))
    ∙ sym (line_at_base f c l s (omega (arith, base, inside)) o d has k inside b own at)
