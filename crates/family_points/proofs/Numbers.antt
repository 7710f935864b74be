-- Boxes of vectors by number.
use Rattle.std.proofs.Common.{◌≡◌, ℕ, zero, suc, ◌+◌, ◌-◌, ◌*◌, ◌/◌, ◌%◌, ◌^◌, ◌<◌, ◌≤◌, List, [], ◌∷◌, ◌++◌, length, get_or, map, flat_map, take, drop, sum, refl, sym, ap, ap₂, ◌∙◌, arith, mul-le-mul_right, length-append, add-one}
use Rattle.std.specs.List.{range_with_len, AllZip}
use Rattle.std.proofs.lemmas.List.{append_assoc, get_or-map, get_or_append_left, get_or-append-add}
use Rattle.std.proofs.lemmas.List.Sums.{sum_by-cons}
use Rattle.std.proofs.Math.Nat.{mul_assoc, pow-suc, pow-le-pow_right}
use Rattle.std.proofs.lemmas.Nat.{div-mul-add, div-add-mod', div_below, mod_below, mul-le}
use Rattle.list_laws.proofs.Public.{same_length}
use Rattle.family_points.specs.Vectors.{vectors}
use Rattle.family_points.specs.Counts.{product, widths}
use Rattle.family_points.specs.Boxes.{IsBox, nth}

-- of ordered bounds the least at each place is at most the most
pub ordered_at : (low high : List ℕ) → AllZip (λ x y. x ≤ y) low high → (i : ℕ) → i < length low → get_or low i 0 ≤ get_or high i 0
ordered_at [] high h i m = absurd (omega (arith, m))
ordered_at (a ∷ low) [] h i m = absurd h
ordered_at (a ∷ low) (b ∷ high) h zero m = h.0
ordered_at (a ∷ low) (b ∷ high) h (suc i) m = ordered_at low high h.1 i (omega (arith, m))

-- ---- how many vectors there are

-- a box with ordered bounds has at least one vector
pub product_some : (low high : List ℕ) → AllZip (λ x y. x ≤ y) low high → 0 < product (widths low high)
product_some [] high h = omega arith
product_some (a ∷ low) [] h = absurd h
product_some (a ∷ low) (b ∷ high) h =
    let more = mul-le-mul_right (product (widths low high)) (width_some a b h.0) in
    omega (arith, product_some low high h.1, more)
  where
    width_some : (a b : ℕ) → a ≤ b → 1 ≤ suc b - a
    width_some a b e = omega (arith, e)

-- the places from the i-th on
pub product_at : (low high : List ℕ) (i : ℕ) → AllZip (λ x y. x ≤ y) low high → i < length low
    → product (widths (drop i low) (drop i high)) ≡ (get_or high i 0 - get_or low i 0 + 1) * product (widths (drop (i + 1) low) (drop (i + 1) high))
product_at [] high i h m = absurd (omega (arith, m))
product_at (a ∷ low) [] i h m = absurd h
product_at (a ∷ low) (b ∷ high) zero h m = ap (λ n. n * product (widths low high)) (width a b h.0)
  where
    width : (a b : ℕ) → a ≤ b → suc b - a ≡ b - a + 1
    width a b e = omega (arith, e)
product_at (a ∷ low) (b ∷ high) (suc i) h m =
    product_at low high i h.1 (omega (arith, m))
    ∙ ap (λ n. (get_or high i 0 - get_or low i 0 + 1) * product (widths (drop n (a ∷ low)) (drop n (b ∷ high)))) (next i)
  where
    next : (i : ℕ) → suc (i + 1) ≡ suc i + 1
    next i = omega arith

pub record Counted (low high : List ℕ) (i n : ℕ) : Type 0 where
  pub whole : n * product (widths (drop i low) (drop i high)) ≡ product (widths low high)
  pub most : n ≤ 64 ^ i

-- the count of the vectors goes on with one place more, whose width multiplies it
pub count_step : (low high : List ℕ) (i n w : ℕ) → IsBox low high → i < length low → w ≡ get_or high i 0 - get_or low i 0 → Counted low high i n
    → Counted low high (i + 1) (n * (w + 1))
count_step low high i n w valid m e h =
    let small : w + 1 ≤ 64 = omega (arith, e, valid.small i 0 (omega (arith, m, same_length low high valid.ordered))) in
    record {
      whole = turn n (w + 1) (product (widths (drop (i + 1) low) (drop (i + 1) high)))
          ∙ ap (λ x. n * x) (ap (λ x. (x + 1) * product (widths (drop (i + 1) low) (drop (i + 1) high))) e ∙ sym (product_at low high i valid.ordered m)) ∙ h.whole;
      most = omega (arith, mul-le n (w + 1) (64 ^ i) 64 h.most small, pow-suc 64 i, ap (λ k. 64 ^ k) (add-one i));
    }
  where
    turn : (a b d : ℕ) → a * b * d ≡ a * (b * d)
    turn a b d = mul_assoc a b d

-- the count of a box's vectors stays below 2^64 at each place
pub fits_count : (low high : List ℕ) (i n : ℕ) → IsBox low high → i < length low → Counted low high (i + 1) n → n < 2 ^ 64
fits_count low high i n valid m h =
    let top : 64 ^ (i + 1) ≤ 64 ^ 9 = pow-le-pow_right {n = 64} (omega arith) {i = i + 1} {j = 9} (omega (arith, m, valid.few)) in
    omega (arith, h.most, top)

-- ---- the vector at a number

pub nth_at : (low high : List ℕ) (i rest : ℕ) → AllZip (λ x y. x ≤ y) low high → i < length low
    → nth (drop i low) (drop i high) rest
    ≡ (get_or low i 0 + rest / product (widths (drop (i + 1) low) (drop (i + 1) high)))
    ∷ nth (drop (i + 1) low) (drop (i + 1) high) (rest % product (widths (drop (i + 1) low) (drop (i + 1) high)))
nth_at [] high i rest h m = absurd (omega (arith, m))
nth_at (a ∷ low) [] i rest h m = absurd h
nth_at (a ∷ low) (b ∷ high) zero rest h m = refl
nth_at (a ∷ low) (b ∷ high) (suc i) rest h m =
    nth_at low high i rest h.1 (omega (arith, m))
    ∙ ap (λ n. (get_or low i 0 + rest / product (widths (drop n (a ∷ low)) (drop n (b ∷ high))))
    ∷ nth (drop n (a ∷ low)) (drop n (b ∷ high)) (rest % product (widths (drop n (a ∷ low)) (drop n (b ∷ high))))) (next i)
  where
    next : (i : ℕ) → suc (i + 1) ≡ suc i + 1
    next i = omega arith

-- a walk through the places of a box stands at place i: what is made so far, and the number of the rest
pub record Stands (low high : List ℕ) (number i size rest : ℕ) (made : List ℕ) : Type 0 where
  pub size_is : size ≡ product (widths (drop i low) (drop i high))
  pub within : rest < size
  pub goes_on : made ++ nth (drop i low) (drop i high) rest ≡ nth low high number

-- the vectors of the places behind place i are those from i on, divided by the width at i
pub next_size : (low high : List ℕ) (i size w : ℕ) → IsBox low high → i < length low → w ≡ get_or high i 0 - get_or low i 0
    → size ≡ product (widths (drop i low) (drop i high)) → size / (w + 1) ≡ product (widths (drop (i + 1) low) (drop (i + 1) high))
next_size low high i size w valid m e h =
    let next = product (widths (drop (i + 1) low) (drop (i + 1) high)) in
    let turned : size ≡ next * (w + 1) + 0 =
    h ∙ product_at low high i valid.ordered m ∙ ap (λ x. (x + 1) * next) (sym e) ∙ turn (w + 1) next in
    ap (λ x. x / (w + 1)) turned ∙ div-mul-add next (w + 1) 0 (omega arith)
  where
    turn : (a b : ℕ) → a * b ≡ b * a + 0
    turn a b = omega arith

drop_ordered : (low high : List ℕ) (i : ℕ) → AllZip (λ x y. x ≤ y) low high → AllZip (λ x y. x ≤ y) (drop i low) (drop i high)
drop_ordered low high zero h = h
drop_ordered [] [] (suc i) h = tt
drop_ordered [] (b ∷ high) (suc i) h = absurd h
drop_ordered (a ∷ low) [] (suc i) h = absurd h
drop_ordered (a ∷ low) (b ∷ high) (suc i) h = drop_ordered low high i h.1

-- the places from the i-th on have at least one choice
pub some_choice : (low high : List ℕ) (i : ℕ) → IsBox low high → 0 < product (widths (drop i low) (drop i high))
some_choice low high i valid = product_some (drop i low) (drop i high) (drop_ordered low high i valid.ordered)

-- what is added at a place is at most its width
pub digit_most : (low high : List ℕ) (i size rest w next : ℕ) → IsBox low high → i < length low → w ≡ get_or high i 0 - get_or low i 0
    → size ≡ product (widths (drop i low) (drop i high)) → rest < size → next ≡ product (widths (drop (i + 1) low) (drop (i + 1) high))
    → get_or low i 0 + rest / next ≤ get_or high i 0
digit_most low high i size rest w next valid m e h l g =
    let some : 0 < next = omega (arith, g, some_choice low high (i + 1) valid) in
    let all : size ≡ (w + 1) * next = h ∙ product_at low high i valid.ordered m ∙ ap₂ (λ x y. (x + 1) * y) (sym e) (sym g) in
    omega (arith, div_below rest next (w + 1) some (omega (arith, l, all)), e, ordered_at low high valid.ordered i m)

-- the walk to the vector of a number goes one place on, to the stock that the rest of the number gives there
pub stands_on : (low high : List ℕ) (number i size rest next x : ℕ) (made more : List ℕ) → IsBox low high → i < length low
    → next ≡ product (widths (drop (i + 1) low) (drop (i + 1) high)) → x ≡ get_or low i 0 + rest / next → more ≡ made ++ x ∷ []
    → Stands low high number i size rest made → Stands low high number (i + 1) next (rest % next) more
stands_on low high number i size rest next x made more valid m g e h at = record {
  size_is = g;
  within = mod_below rest next (omega (arith, g, some_choice low high (i + 1) valid));
  goes_on =
      let after : List ℕ = nth (drop (i + 1) low) (drop (i + 1) high) (rest % next) in
      ap (λ (v : List ℕ). v ++ after) h ∙ append_assoc made (x ∷ []) after
      ∙ ap (λ (v : List ℕ). made ++ v)
      (ap (λ y. y ∷ after) e
      ∙ ap (λ n. (get_or low i 0 + rest / n) ∷ nth (drop (i + 1) low) (drop (i + 1) high) (rest % n)) g
      ∙ sym (nth_at low high i rest valid.ordered m))
      ∙ at.goes_on;
}

-- ---- the vectors by number

mapped_long : (a : ℕ) (vs : List (List ℕ)) → length (map (λ v. a ∷ v) vs) ≡ length vs
mapped_long a [] = refl
mapped_long a (v ∷ vs) = ap suc (mapped_long a vs)

at_block : (vs : List (List ℕ)) (a m q r : ℕ) → q < m → r < length vs
    → get_or (flat_map (λ x. map (λ v. x ∷ v) vs) (range_with_len a m)) (q * length vs + r) [] ≡ (a + q) ∷ get_or vs r []
at_block vs a zero q r h l = absurd (omega (arith, h))
at_block vs a (suc m) zero r h l =
    let at : 0 * length vs + r ≡ r = omega arith in
    let first : a ≡ a + 0 = omega arith in
    let rest : List (List ℕ) = flat_map (λ x. map (λ v. x ∷ v) vs) (range_with_len (a + 1) m) in
    ap (λ k. get_or (map (λ v. a ∷ v) vs ++ rest) k []) at
    ∙ get_or_append_left (map (λ v. a ∷ v) vs) rest [] r (omega (arith, l, mapped_long a vs))
    ∙ get_or-map (λ v. a ∷ v) vs r [] [] l
    ∙ ap (λ k. k ∷ get_or vs r []) first
at_block vs a (suc m) (suc q) r h l =
    let rest : List (List ℕ) = flat_map (λ x. map (λ v. x ∷ v) vs) (range_with_len (a + 1) m) in
    let at : suc q * length vs + r ≡ length (map (λ v. a ∷ v) vs) + (q * length vs + r) = omega (arith, mapped_long a vs) in
    let next : a + 1 + q ≡ a + suc q = omega arith in
    ap (λ k. get_or (map (λ v. a ∷ v) vs ++ rest) k []) at
    ∙ get_or-append-add (map (λ v. a ∷ v) vs) rest (q * length vs + r) []
    ∙ at_block vs (a + 1) m q r (omega (arith, h)) l
    ∙ ap (λ k. k ∷ get_or vs r []) next

-- m first stocks before each of some vectors make m times as many
pub block_length : (vs : List (List ℕ)) (a m : ℕ) → length (flat_map (λ x. map (λ v. x ∷ v) vs) (range_with_len a m)) ≡ m * length vs
block_length vs a zero = omega arith
block_length vs a (suc m) =
    omega (arith, length-append (map (λ v. a ∷ v) vs) (flat_map (λ x. map (λ v. x ∷ v) vs) (range_with_len (a + 1) m)), mapped_long a vs, block_length vs (a + 1) m)

-- the vectors of a box are as many as the product of its widths
pub vectors_count : (low high : List ℕ) → AllZip (λ x y. x ≤ y) low high → length (vectors low high) ≡ product (widths low high)
vectors_count [] [] h = refl
vectors_count [] (b ∷ high) h = absurd h
vectors_count (a ∷ low) [] h = absurd h
vectors_count (a ∷ low) (b ∷ high) h = block_length (vectors low high) a (suc b - a) ∙ ap (λ n. (suc b - a) * n) (vectors_count low high h.1)

-- the vector that is made from a number is the one at this place in the list of all
pub nth_is : (low high : List ℕ) (n : ℕ) → AllZip (λ x y. x ≤ y) low high → n < product (widths low high) → get_or (vectors low high) n [] ≡ nth low high n
nth_is [] [] n h m = one n (omega (arith, m))
  where
    one : (n : ℕ) → n ≡ 0 → get_or (vectors [] []) n [] ≡ []
    one n e = ap (λ k. get_or (vectors [] []) k []) e
nth_is [] (b ∷ high) n h m = absurd h
nth_is (a ∷ low) [] n h m = absurd h
nth_is (a ∷ low) (b ∷ high) n h m =
    let vs = vectors low high in
    let p = product (widths low high) in
    let count : length vs ≡ p = vectors_count low high h.1 in
    let some : 0 < p = product_some low high h.1 in
    let split : n ≡ n / p * length vs + n % p = sym (div-add-mod' n p) ∙ ap (λ k. n / p * k + n % p) (sym count) in
    ap (λ k. get_or (vectors (a ∷ low) (b ∷ high)) k []) split
    ∙ at_block vs a (suc b - a) (n / p) (n % p) (div_below n p (suc b - a) some m) (omega (arith, count, mod_below n p some))
    ∙ ap (λ (v : List ℕ). (a + n / p) ∷ v) (nth_is low high (n % p) h.1 (mod_below n p some))

-- a count of at most 64 for each place of a box is at most 64^9
pub count_most : (low high : List ℕ) (i n : ℕ) → IsBox low high → i ≤ length low → n ≤ 64 ^ i → n ≤ 64 ^ 9
count_most low high i n valid m h =
    let top : 64 ^ i ≤ 64 ^ 9 = pow-le-pow_right {n = 64} (omega arith) {i = i} {j = 9} (omega (arith, m, valid.few)) in
    omega (arith, h, top)

-- ---- sums of widths

-- the width at a place is the most there less the least, and one
pub width_at : (low high : List ℕ) (i : ℕ) → AllZip (λ x y. x ≤ y) low high → i < length low → get_or (widths low high) i 0 ≡ get_or high i 0 - get_or low i 0 + 1
width_at [] high i h m = absurd (omega (arith, m))
width_at (a ∷ low) [] i h m = absurd h
width_at (a ∷ low) (b ∷ high) zero h m = width a b h.0
  where
    width : (a b : ℕ) → a ≤ b → suc b - a ≡ b - a + 1
    width a b e = omega (arith, e)
width_at (a ∷ low) (b ∷ high) (suc i) h m = width_at low high i h.1 (omega (arith, m))

-- there is a width for each place
pub widths_long : (low high : List ℕ) → AllZip (λ x y. x ≤ y) low high → length (widths low high) ≡ length low
widths_long [] high h = refl
widths_long (a ∷ low) [] h = absurd h
widths_long (a ∷ low) (b ∷ high) h = ap suc (widths_long low high h.1)

-- the sum of the numbers from the i-th on is the i-th and the sum of those behind it
pub sum_from : (ws : List ℕ) (i : ℕ) → i < length ws → sum (drop i ws) ≡ get_or ws i 0 + sum (drop (i + 1) ws)
sum_from [] i m = absurd (omega (arith, m))
sum_from (w ∷ ws) zero m = sum_by-cons (λ n. n) w ws
sum_from (w ∷ ws) (suc i) m = sum_from ws i (omega (arith, m)) ∙ ap (λ n. get_or ws i 0 + sum (drop n (w ∷ ws))) (next i)
  where
    next : (i : ℕ) → suc (i + 1) ≡ suc i + 1
    next i = omega arith

widths_take : (n : ℕ) (low high : List ℕ) → AllZip (λ x y. x ≤ y) low high → widths (take n low) (take n high) ≡ take n (widths low high)
widths_take zero low high h = refl
widths_take (suc n) [] [] h = refl
widths_take (suc n) [] (b ∷ high) h = absurd h
widths_take (suc n) (a ∷ low) [] h = absurd h
widths_take (suc n) (a ∷ low) (b ∷ high) h = ap (λ (ws : List ℕ). (suc b - a) ∷ ws) (widths_take n low high h.1)

widths_drop : (n : ℕ) (low high : List ℕ) → AllZip (λ x y. x ≤ y) low high → widths (drop n low) (drop n high) ≡ drop n (widths low high)
widths_drop zero low high h = refl
widths_drop (suc n) [] [] h = refl
widths_drop (suc n) [] (b ∷ high) h = absurd h
widths_drop (suc n) (a ∷ low) [] h = absurd h
widths_drop (suc n) (a ∷ low) (b ∷ high) h = widths_drop n low high h.1

-- the widths of a part of the bounds are that part of the widths
pub widths_part : (m n : ℕ) (low high : List ℕ) → AllZip (λ x y. x ≤ y) low high → widths (take n (drop m low)) (take n (drop m high)) ≡ take n (drop m (widths low high))
widths_part m n low high h = widths_take n (drop m low) (drop m high) (drop_ordered low high m h) ∙ ap (take n) (widths_drop m low high h)
