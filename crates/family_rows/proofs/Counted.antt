-- The tables that a family's sources hold are counted.
use Rattle.std.proofs.Common.{◌≡◌, ℕ, zero, suc, ◌+◌, ◌-◌, ◌*◌, ◌<◌, ◌≤◌, List, [], ◌∷◌, length, get_or, drop, map, sum, sum_by, refl, sym, ap, ap₂, ◌∙◌, arith}
use Rattle.std.specs.List.{AllZip, range_with_len}
use Rattle.std.proofs.lemmas.List.FromFn.{length-map-range_with_len, length-range_with_len}
use Rattle.std.proofs.lemmas.List.Sums.{sum_by-cons}
use Rattle.list_laws.proofs.Public.{sum_mapped}
use Rattle.fleet_model.specs.Rows.{bases}
use Rattle.family_numbers.specs.BaseTables.{tables_by_shop, tables_by_stock}
use Rattle.family_numbers.specs.Numbers.{FamilyNumbers, base_shop_table, depot_shop_table, nth_stock}
use Rattle.family_points.specs.Counts.{widths}
use Rattle.family_points.specs.Inputs.{FamilyBox, IsFamilyBox, high_at, low_at, shop_high, shop_low}
use Rattle.family_points.specs.Vectors.{site_part}
use Rattle.family_points.proofs.Public.{box_at, width_at, widths_long, box_shops, shops_low_long, part_widths}
use Rattle.family_rows.specs.Sources.{SourcesAreCounted}
use Rattle.family_rows.specs.Tabled.{box_numbers}

-- a sum over numbers in turn, one for each entry of a list
sum_along : (f : ℕ → ℕ) (ws : List ℕ) (a : ℕ) → ((i : ℕ) → i < length ws → f (a + i) ≡ get_or ws i 0) → sum_by f (range_with_len a (length ws)) ≡ sum ws
sum_along f [] a h = refl
sum_along f (w ∷ ws) a h =
    let here : f a ≡ w = ap f (same a) ∙ h 0 (omega arith) in
    let rest = sum_along f ws (a + 1) (λ i m. ap f (next a i) ∙ h (suc i) (omega (arith, m))) in
    omega (arith, sum_by-cons f a (range_with_len (a + 1) (length ws)), sum_by-cons (λ (n : ℕ). n) w ws, here, rest)
  where
    same : (a : ℕ) → a ≡ a + 0
    same a = omega arith

    next : (a i : ℕ) → a + 1 + i ≡ a + suc i
    next a i = omega arith

sum_same : (f : ℕ → ℕ) (n a w : ℕ) → ((k : ℕ) → f k ≡ w) → sum_by f (range_with_len a n) ≡ n * w
sum_same f zero a w h = omega arith
sum_same f (suc n) a w h = omega (arith, sum_by-cons f a (range_with_len (a + 1) n), h a, sum_same f n (a + 1) w h)

module _ (x : FamilyNumbers 48) (low high : List ℕ) (ordered : AllZip (λ a b. a ≤ b) low high) (count : length low ≡ length x.parts - 1) where
  one_shop : (k i : ℕ) → i < length low → length (tables_by_stock 48 x k i (nth_stock low i) (nth_stock high i)) ≡ get_or (widths low high) i 0
  one_shop k i m = omega (arith, length-map-range_with_len (λ s. base_shop_table 48 x i k s) (nth_stock low i) (suc (nth_stock high i) - nth_stock low i), width_at low high i ordered m, least low high i ordered m)
    where
      least : (low high : List ℕ) (i : ℕ) → AllZip (λ a b. a ≤ b) low high → i < length low → get_or low i 0 ≤ get_or high i 0
      least [] high i h m = absurd (omega (arith, m))
      least (a ∷ low) [] i h m = absurd h
      least (a ∷ low) (b ∷ high) zero h m = h.0
      least (a ∷ low) (b ∷ high) (suc i) h m = least low high i h.1 (omega (arith, m))

  one_base : (k : ℕ) → sum_by length (tables_by_shop 48 x low high k) ≡ sum (widths low high)
  one_base k =
      let all : length (widths low high) ≡ length x.parts - 1 = widths_long low high ordered ∙ count in
      sum_mapped length (λ i. tables_by_stock 48 x k i (nth_stock low i) (nth_stock high i)) (range_with_len 0 (length x.parts - 1))
      ∙ ap (λ n. sum_by (λ i. length (tables_by_stock 48 x k i (nth_stock low i) (nth_stock high i))) (range_with_len 0 n)) (sym all)
      ∙ sum_along (λ i. length (tables_by_stock 48 x k i (nth_stock low i) (nth_stock high i))) (widths low high) 0
      (λ i m. ap (λ n. length (tables_by_stock 48 x k n (nth_stock low n) (nth_stock high n))) (from_none i) ∙ one_shop k i (omega (arith, m, widths_long low high ordered)))
    where
      from_none : (i : ℕ) → 0 + i ≡ i
      from_none i = omega arith

widths_rest : (low high : List ℕ) → AllZip (λ a b. a ≤ b) low high → drop 1 (widths low high) ≡ widths (drop 1 low) (drop 1 high)
widths_rest [] [] h = refl
widths_rest [] (b ∷ high) h = absurd h
widths_rest (a ∷ low) [] h = absurd h
widths_rest (a ∷ low) (b ∷ high) h = refl

pub sources_are_counted : SourcesAreCounted
sources_are_counted s valid are =
    let x = s.family.now in
    let n = box_numbers x in
    let some : 0 < length x.case.sites = omega (arith, valid.valid.frame.fewest_sites) in
    let box = box_shops x valid 0 some in
    let low = shop_low x 0 in
    let high = shop_high x 0 in
    let count : length low ≡ length n.parts - 1 = shops_low_long x valid 0 some in
    let own : drop 1 (site_part x.case x.line (widths x.low x.high) 0) ≡ widths low high = stocks x valid some in
    let depot : length s.depot_shops.items ≡ length low =
    ap length are.depot_shops ∙ length-map-range_with_len (λ i. depot_shop_table 48 s.numbers i) 0 (length s.numbers.parts - 1) ∙ ap (λ (y : FamilyNumbers 48). length y.parts - 1) are.numbers ∙ sym count in
    let at_bases : sum_by (sum_by length) s.base_shops.tables ≡ (length x.case.sites - 1) * sum (widths low high) =
    ap (sum_by (sum_by length)) are.base_shops.tables
    ∙ ap (λ (y : FamilyNumbers 48). sum_by (sum_by length) (map (tables_by_shop 48 y low high) (range_with_len 1 (y.sites - 1)))) are.numbers
    ∙ sum_mapped (sum_by length) (tables_by_shop 48 n low high) (range_with_len 1 (length x.case.sites - 1))
    ∙ sum_same (λ k. sum_by length (tables_by_shop 48 n low high k)) (length x.case.sites - 1) 1 (sum (widths low high)) (one_base n low high box.ordered count) in
    let bases_count : length (bases x.case) ≡ length x.case.sites - 1 = length-range_with_len 1 (length x.case.sites - 1) in
    ap₂ (λ (a b : ℕ). a + b) (depot ∙ sym (widths_long low high box.ordered) ∙ ap length (sym own))
    (at_bases ∙ ap₂ (λ (a b : ℕ). a * b) (sym bases_count) (ap sum (sym own)))
  where
    order : (x : FamilyBox) (valid : IsFamilyBox x) → 0 < length x.case.sites → AllZip (λ a b. a ≤ b) (low_at x 0) (high_at x 0)
    order x valid some = (box_at x 0 valid some).ordered

    stocks : (x : FamilyBox) (valid : IsFamilyBox x) → 0 < length x.case.sites → drop 1 (site_part x.case x.line (widths x.low x.high) 0) ≡ widths (shop_low x 0) (shop_high x 0)
    stocks x valid some =
        let whole = part_widths x.case x.line x.held x.low x.high valid.valid valid.is_line valid.ordered 0 (low_at x 0) (high_at x 0) refl refl in
        ap (drop 1) (sym whole) ∙ widths_rest (low_at x 0) (high_at x 0) (order x valid some)
