-- The tables of a box.
use Rattle.std.proofs.Common.{◌≡◌, ℕ, suc, ◌+◌, ◌-◌, ◌*◌, ◌^◌, ◌<◌, ◌≤◌, List, [], ◌∷◌, length, get_or, map, drop, sum, sum_by, sym, ap, ap₂, ◌∙◌, subst, arith, length-drop}
use Rattle.std.specs.List.{range_with_len}
use Rattle.std.proofs.lemmas.List.{map_push}
use Rattle.std.proofs.lemmas.List.FromFn.{length-map-range_with_len}
use Rattle.std.proofs.lemmas.List.Sums.{sum_by-append}
use Rattle.list_laws.proofs.Public.{range_more, same_length}
use Rattle.answers.specs.Counts.{count64}
use Rattle.spares_input.specs.Cases.{CaseRows, IsCase}
use Rattle.fleet_model.specs.Rows.{bases, shop_units}
use Rattle.family_items.specs.Inputs.{IsLine}
use Rattle.family_points.specs.Vectors.{limits, site_part}
use Rattle.family_points.specs.Points.{AreOrdered}
use Rattle.family_points.specs.Counts.{product, widths, tables_between}
use Rattle.family_points.specs.Boxes.{IsBox}
use Rattle.family_points.proofs.Bounded.{box_of, limits_long, part_within}
use Rattle.family_points.proofs.Numbers.{widths_long, widths_part}
use Rattle.family_points.proofs.Sites.{part_long, size}

-- what the shop units of a site have in a box
abbrev shops_at : CaseRows → ℕ → List ℕ → List ℕ → ℕ → List ℕ
shops_at c l low high j = drop 1 (site_part c l (widths low high) j)

-- the bases before j
pub record Based (c : CaseRows) (l : ℕ) (low high : List ℕ) (j total : ℕ) : Type 0 where
  pub sum_is : total ≡ sum_by product (map (shops_at c l low high) (range_with_len 1 (j - 1)))
  pub most : total ≤ (j - 1) * 64 ^ 9

-- with base j counted too, the sum has the products of the shop units' widths at all bases up to j
pub based_more : (c : CaseRows) (l : ℕ) (low high : List ℕ) (j total shops : ℕ) → 1 ≤ j → shops ≡ product (shops_at c l low high j) → shops ≤ 64 ^ 9
    → Based c l low high j total → Based c l low high (j + 1) (total + shops)
based_more c l low high j total shops some e few h =
    let at : List ℕ = range_with_len 1 (j - 1) in
    let next : suc (j - 1) ≡ j + 1 - 1 = omega (arith, some) in
    record {
      sum_is = ap₂ (λ m n. m + n) h.sum_is e
          ∙ sym (sum_by-append product (map (shops_at c l low high) at) (shops_at c l low high j ∷ []) ∙ one (sum_by product (map (shops_at c l low high) at)) (product (shops_at c l low high j)))
          ∙ ap (sum_by product) (sym (map_push (shops_at c l low high) at j) ∙ ap (map (shops_at c l low high)) (sym (range_more 1 (j - 1) j (omega (arith, some))) ∙ ap (range_with_len 1) next));
      most = omega (arith, h.most, few, ap (λ n. n * 64 ^ 9) (sym next));
    }
  where
    one : (n x : ℕ) → n + (0 + x) ≡ n + x
    one n x = omega arith

-- ---- a site's part

module _ (c : CaseRows) (l : ℕ) (held low high : List ℕ) (valid : IsCase c) (line : IsLine c l) (ordered : AreOrdered c l held low high) where
  -- the high bounds have one number for each part of the family at each site
  pub top_long : length high ≡ length c.sites * size c l
  top_long = sym (same_length high (limits c l) ordered.within) ∙ limits_long c l

  -- the low bounds have one number for each part of the family at each site
  pub least_long : length low ≡ length c.sites * size c l
  least_long = sym (same_length low high ordered.low_least) ∙ top_long

  -- the low bounds of each site are within the list of all
  pub low_within : (n k : ℕ) → n ≡ size c l → k < length c.sites → k * n + n ≤ length low
  low_within n k e m = part_within k (length c.sites) n (length low) m (least_long ∙ ap (λ w. length c.sites * w) (sym e))

  -- the high bounds of each site are within the list of all
  pub high_within : (n k : ℕ) → n ≡ size c l → k < length c.sites → k * n + n ≤ length high
  high_within n k e m = part_within k (length c.sites) n (length high) m (top_long ∙ ap (λ w. length c.sites * w) (sym e))

  -- the low bounds of a site are not empty
  pub part_some : (k : ℕ) (a : List ℕ) → a ≡ site_part c l low k → k < length c.sites → 0 < length a
  part_some k a e m = omega (arith, ap length e, part_long c l low k (length c.sites) least_long m)

  -- the bounds of a site make a box
  pub part_box : (k : ℕ) (a b : List ℕ) → a ≡ site_part c l low k → b ≡ site_part c l high k → k < length c.sites → IsBox a b
  part_box k a b e f m = subst (λ x. IsBox x b) (sym e) (subst (IsBox (site_part c l low k)) (sym f) (box_of c l held low high k valid line ordered m))

  -- the widths at a site are the site's part of all widths
  pub part_widths : (k : ℕ) (a b : List ℕ) → a ≡ site_part c l low k → b ≡ site_part c l high k → widths a b ≡ site_part c l (widths low high) k
  part_widths k a b e f = ap₂ widths e f ∙ widths_part (k * size c l) (size c l) low high ordered.low_least

  -- all together
  pub tables_are_between : (units line' total shops j based answer : ℕ) → units ≡ length (shop_units c l) → 0 < length c.sites
      → line' ≡ get_or (site_part c l (widths low high) 0) 0 0 → total ≡ sum (shops_at c l low high 0) → shops ≡ product (shops_at c l low high 0)
      → j ≡ length c.sites → Based c l low high j based
      → answer ≡ count64 (units + shops + (length c.sites - 1) * total + count64 (line' * shops * based))
      → answer ≡ count64 (tables_between c l low high)
  tables_are_between units line' total shops j based answer hu some hl ht hs hj hb h =
      let d : List ℕ = shops_at c l low high 0 in
      let bs : List (List ℕ) = map (shops_at c l low high) (bases c) in
      let count : units ≡ length d =
      omega (arith, hu, length-drop 1 (site_part c l (widths low high) 0), part_long c l (widths low high) 0 (length c.sites) (widths_long low high ordered.low_least ∙ least_long) some) in
      let all : based ≡ sum_by product bs = hb.sum_is ∙ ap (λ n. sum_by product (map (shops_at c l low high) (range_with_len 1 (n - 1)))) hj in
      let many : length c.sites - 1 ≡ length bs = sym (length-map-range_with_len (shops_at c l low high) 1 (length c.sites - 1)) in
      h ∙ last (units + shops + (length c.sites - 1) * total) (line' * shops * based)
      ∙ ap count64 (ap₂ (λ m n. m + n) (ap₂ (λ m n. m + n) (ap₂ (λ m n. m + n) count hs) (ap₂ (λ m n. m * n) many ht)) (ap₂ (λ m n. m * n) (ap₂ (λ m n. m * n) hl hs) all))
    where
      last : (x y : ℕ) → count64 (x + count64 y) ≡ count64 (x + y)
      last x y = omega arith
