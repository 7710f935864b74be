-- A larger box takes no fewer tables.
use Rattle.std.proofs.Common.{◌≡◌, ℕ, zero, suc, ◌+◌, ◌*◌, ◌≤◌, List, [], ◌∷◌, length, map, take, drop, get_or, sum, sum_by, arith}
use Rattle.std.proofs.lemmas.Nat.{mul-le}
use Rattle.std.proofs.lemmas.List.{length-map}
use Rattle.std.proofs.lemmas.List.Sums.{sum_by-cons}
use Rattle.spares_input.specs.Cases.{CaseRows}
use Rattle.fleet_model.specs.Rows.{bases}
use Rattle.fleet_model.specs.Fleet.{family}
use Rattle.family_points.specs.Vectors.{site_part}
use Rattle.family_points.specs.Counts.{product, tables_between, widths}
use Rattle.gap_rules.specs.Boxes.{AtMost}
use Rattle.gap_rules.proofs.Public.{at_most_at, at_most_length}

widths_more : (low high most : List ℕ) → AtMost high most → AtMost (widths low high) (widths low most)
widths_more [] high most h = tt
widths_more (a ∷ low) [] [] h = tt
widths_more (a ∷ low) [] (z ∷ most) h = absurd h
widths_more (a ∷ low) (b ∷ high) [] h = absurd h
widths_more (a ∷ low) (b ∷ high) (z ∷ most) h = (let m = h.0 in omega (arith, m), widths_more low high most h.1)

take_more : (n : ℕ) (xs ys : List ℕ) → AtMost xs ys → AtMost (take n xs) (take n ys)
take_more zero xs ys h = tt
take_more (suc n) [] [] h = tt
take_more (suc n) [] (y ∷ ys) h = absurd h
take_more (suc n) (x ∷ xs) [] h = absurd h
take_more (suc n) (x ∷ xs) (y ∷ ys) h = (h.0, take_more n xs ys h.1)

drop_more : (n : ℕ) (xs ys : List ℕ) → AtMost xs ys → AtMost (drop n xs) (drop n ys)
drop_more zero xs ys h = h
drop_more (suc n) [] [] h = tt
drop_more (suc n) [] (y ∷ ys) h = absurd h
drop_more (suc n) (x ∷ xs) [] h = absurd h
drop_more (suc n) (x ∷ xs) (y ∷ ys) h = drop_more n xs ys h.1

product_more : (xs ys : List ℕ) → AtMost xs ys → product xs ≤ product ys
product_more [] [] h = omega arith
product_more [] (y ∷ ys) h = absurd h
product_more (x ∷ xs) [] h = absurd h
product_more (x ∷ xs) (y ∷ ys) h = mul-le x (product xs) y (product ys) h.0 (product_more xs ys h.1)

sum_more : (xs ys : List ℕ) → AtMost xs ys → sum_by (λ x. x) xs ≤ sum_by (λ x. x) ys
sum_more [] [] h = omega arith
sum_more [] (y ∷ ys) h = absurd h
sum_more (x ∷ xs) [] h = absurd h
sum_more (x ∷ xs) (y ∷ ys) h =
    let m = h.0 in
    omega (arith, m, sum_by-cons (λ z. z) x xs, sum_by-cons (λ z. z) y ys, sum_more xs ys h.1)

bases_more : (f g : ℕ → List ℕ) (js : List ℕ) → ((j : ℕ) → AtMost (f j) (g j)) → sum_by product (map f js) ≤ sum_by product (map g js)
bases_more f g [] h = omega arith
bases_more f g (j ∷ js) h =
    omega (
      arith,
      product_more (f j) (g j) (h j),
      sum_by-cons product (f j) (map f js),
      sum_by-cons product (g j) (map g js),
      bases_more f g js h,
    )

add_up : (m a j b c d e m' a' j' b' c' d' e' : ℕ) → m ≡ m' → a ≤ a' → j ≡ j' → b ≤ b' → c ≤ c' → d ≤ d' → e ≤ e'
    → m + a + j * b + c * d * e ≤ m' + a' + j' * b' + c' * d' * e'
add_up m a j b c d e m' a' j' b' c' d' e' hm ha hj hb hc hd he =
    let shops : j * b ≤ j' * b' = mul-le j b j' b' (omega (arith, hj)) hb in
    let ways : c * d ≤ c' * d' = mul-le c d c' d' hc hd in
    let all : c * d * e ≤ c' * d' * e' = mul-le (c * d) e (c' * d') e' ways he in
    omega (arith, hm, ha, shops, all)

module _ (c : CaseRows) (l : ℕ) (low high most : List ℕ) (more : AtMost high most) where
  site_more : (k : ℕ) → AtMost (site_part c l (widths low high) k) (site_part c l (widths low most) k)
  site_more k =
      take_more (length (family c l)) (drop (k * length (family c l)) (widths low high)) (drop (k * length (family c l)) (widths low most))
      (drop_more (k * length (family c l)) (widths low high) (widths low most) (widths_more low high most more))

  shops_more : (k : ℕ) → AtMost (drop 1 (site_part c l (widths low high) k)) (drop 1 (site_part c l (widths low most) k))
  shops_more k = drop_more 1 (site_part c l (widths low high) k) (site_part c l (widths low most) k) (site_more k)

  -- up to a high corner that is no lower there are no fewer tables
  pub tables_more : tables_between c l low high ≤ tables_between c l low most
  tables_more =
      let at : ℕ → List ℕ = λ k. site_part c l (widths low high) k in
      let to : ℕ → List ℕ = λ k. site_part c l (widths low most) k in
      let fewer : ℕ → List ℕ = λ k. drop 1 (site_part c l (widths low high) k) in
      let shops : ℕ → List ℕ = λ k. drop 1 (site_part c l (widths low most) k) in
      add_up (length (fewer 0)) (product (fewer 0)) (length (map fewer (bases c))) (sum (fewer 0)) (get_or (at 0) 0 0) (product (fewer 0)) (sum_by product (map fewer (bases c)))
      (length (shops 0)) (product (shops 0)) (length (map shops (bases c))) (sum (shops 0)) (get_or (to 0) 0 0) (product (shops 0)) (sum_by product (map shops (bases c)))
      (at_most_length (fewer 0) (shops 0) (shops_more 0))
      (product_more (fewer 0) (shops 0) (shops_more 0))
      (omega (arith, length-map (bases c) fewer, length-map (bases c) shops))
      (sum_more (fewer 0) (shops 0) (shops_more 0))
      (at_most_at (at 0) (to 0) 0 (site_more 0))
      (product_more (fewer 0) (shops 0) (shops_more 0))
      (bases_more fewer shops (bases c) shops_more)
