-- A single vector takes few tables.
use Rattle.std.proofs.Common.{◌≡◌, ℕ, zero, suc, ◌+◌, ◌-◌, ◌*◌, ◌≤◌, List, [], ◌∷◌, length, map, take, drop, get_or, sum, sum_by, refl, ap, ◌∙◌, arith, mul-le-mul_left}
use Rattle.std.proofs.lemmas.List.{length-map}
use Rattle.std.proofs.lemmas.List.FromFn.{length-range_with_len}
use Rattle.std.proofs.lemmas.List.Sums.{sum_by-cons}
use Rattle.spares_input.specs.Cases.{CaseRows, IsCase}
use Rattle.fleet_model.specs.Rows.{bases}
use Rattle.fleet_model.specs.Fleet.{family}
use Rattle.family_items.specs.Inputs.{IsLine}
use Rattle.family_points.specs.Vectors.{site_part}
use Rattle.family_points.specs.Counts.{product, tables_between, widths}
use Rattle.family_points.proofs.Bounded.{few_members}

-- each width is 1
abbrev AreOnes : List ℕ → Type 0
AreOnes [] = Unit {0}
AreOnes (x ∷ xs) = (x ≡ 1) × AreOnes xs

ones : (v : List ℕ) → AreOnes (widths v v)
ones [] = tt
ones (x ∷ v) = (omega arith, ones v)

ones_take : (n : ℕ) (xs : List ℕ) → AreOnes xs → AreOnes (take n xs)
ones_take zero xs h = tt
ones_take (suc n) [] h = tt
ones_take (suc n) (x ∷ xs) h = (h.0, ones_take n xs h.1)

ones_drop : (n : ℕ) (xs : List ℕ) → AreOnes xs → AreOnes (drop n xs)
ones_drop zero xs h = h
ones_drop (suc n) [] h = tt
ones_drop (suc n) (x ∷ xs) h = ones_drop n xs h.1

ones_part : (c : CaseRows) (l k : ℕ) (v : List ℕ) → AreOnes (site_part c l (widths v v) k)
ones_part c l k v = ones_take (length (family c l)) (drop (k * length (family c l)) (widths v v)) (ones_drop (k * length (family c l)) (widths v v) (ones v))

product_ones : (xs : List ℕ) → AreOnes xs → product xs ≡ 1
product_ones [] h = refl
product_ones (x ∷ xs) h = (let a = h.0 in ap (λ z. z * product xs) a ∙ ap (λ z. 1 * z) (product_ones xs h.1))

sum_ones : (xs : List ℕ) → AreOnes xs → sum_by (λ x. x) xs ≤ length xs
sum_ones [] h = omega arith
sum_ones (x ∷ xs) h = (let a = h.0 in omega (arith, a, sum_by-cons (λ y. y) x xs, sum_ones xs h.1))

first_one : (xs : List ℕ) → AreOnes xs → get_or xs 0 0 ≤ 1
first_one [] h = omega arith
first_one (x ∷ xs) h = (let a = h.0 in omega (arith, a))

bases_ones : (f : ℕ → List ℕ) (js : List ℕ) → ((j : ℕ) → AreOnes (f j)) → sum_by product (map f js) ≡ length js
bases_ones f [] h = refl
bases_ones f (j ∷ js) h = omega (arith, sum_by-cons product (f j) (map f js), product_ones (f j) (h j), bases_ones f js h)

long_take : (n : ℕ) (xs : List ℕ) → length (take n xs) ≤ n
long_take zero xs = omega arith
long_take (suc n) [] = omega arith
long_take (suc n) (x ∷ xs) = omega (arith, long_take n xs)

long_drop : (n : ℕ) (xs : List ℕ) → length xs ≤ n → length (drop 1 xs) ≤ n - 1
long_drop n [] h = omega arith
long_drop n (x ∷ xs) h = omega (arith, h)

few_tables : (m j a b c d e : ℕ) → m ≤ 8 → j ≤ 15 → a ≡ 1 → b ≤ m → c ≤ 1 → d ≡ 1 → e ≡ j → m + a + j * b + c * d * e ≤ 144
few_tables m j a b c d e m8 j15 a1 bm c1 d1 ej =
    let x : j * b ≤ j * 8 = mul-le-mul_left j (let t : b ≤ 8 = omega arith in t) in
    let y : c * d ≡ c * 1 = ap (λ z. c * z) d1 in
    let z : c * d * e ≡ c * 1 * e = ap (λ q. q * e) y in
    let u : e * (c * 1) ≤ e * 1 = mul-le-mul_left e (let t : c * 1 ≤ 1 = omega arith in t) in
    omega (arith, x, z, u)

-- a box of a single vector takes at most 144 tables
pub one_vector : (c : CaseRows) (l : ℕ) (v : List ℕ) → IsCase c → IsLine c l → tables_between c l v v ≤ 144
one_vector c l v valid line =
    let part : ℕ → List ℕ = λ k. site_part c l (widths v v) k in
    let shops : ℕ → List ℕ = λ k. drop 1 (site_part c l (widths v v) k) in
    let all : (k : ℕ) → AreOnes (drop 1 (site_part c l (widths v v) k)) = λ k. ones_drop 1 (site_part c l (widths v v) k) (ones_part c l k v) in
    let count : length (drop 1 (site_part c l (widths v v) 0)) ≤ 8 =
    omega (
      arith,
      few_members c l valid line,
      long_drop (length (family c l)) (site_part c l (widths v v) 0) (long_take (length (family c l)) (drop (0 * length (family c l)) (widths v v))),
    ) in
    few_tables (length (shops 0)) (length (map shops (bases c))) (product (shops 0)) (sum (shops 0)) (get_or (part 0) 0 0) (product (shops 0)) (sum_by product (map shops (bases c))) count
    (omega (arith, length-map (bases c) shops, length-range_with_len 1 (length c.sites - 1), valid.frame.most_sites))
    (product_ones (shops 0) (all 0)) (sum_ones (shops 0) (all 0)) (first_one (part 0) (ones_part c l 0 v)) (product_ones (shops 0) (all 0))
    (omega (arith, bases_ones shops (bases c) all, length-map (bases c) shops))
