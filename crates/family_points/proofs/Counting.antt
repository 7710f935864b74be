-- Counts that stay at the largest number.
use Rattle.std.proofs.Common.{◌≡◌, ℕ, zero, suc, ◌+◌, ◌-◌, ◌*◌, ◌^◌, ◌<◌, ◌≤◌, ◌⊎◌, inl, inr, List, [], ◌∷◌, length, get_or, map, take, sum_by, refl, sym, ap, ap₂, ◌∙◌, arith, mul-le-mul_left}
use Rattle.std.proofs.lemmas.List.{map_more}
use Rattle.std.proofs.lemmas.List.Sums.{sum_by-append}
use Rattle.std.proofs.Math.Nat.{mul_assoc, mul_comm, pow-suc}
use Rattle.std.proofs.lemmas.Nat.{mul-pow}
use Rattle.answers.specs.Counts.{count64}
use Rattle.spares_input.specs.declared.rows.PartId.{PartId}
use Rattle.family_points.specs.Counts.{product}

-- ---- the largest count

small_or_large : (n : ℕ) → (n ≤ 2 ^ 64 - 1) ⊎ (2 ^ 64 - 1 ≤ n)
small_or_large n = grind arith

least : (b : ℕ) → 1 ≤ suc b
least b = omega arith

-- to cut a factor at the largest count first leaves the cut product the same
pub counted_times : (a b : ℕ) → count64 (count64 a * b) ≡ count64 (a * b)
counted_times a b = elim (small_or_large a) [
  | inl h ↦ (let e : count64 a ≡ a = omega (arith, h) in ap (λ n. count64 (n * b)) e)
  | inr h ↦ large b h
]
  where
    large : (b : ℕ) → 2 ^ 64 - 1 ≤ a → count64 (count64 a * b) ≡ count64 (a * b)
    large zero h =
        let l : count64 a * 0 ≡ 0 = omega arith in
        let r : a * 0 ≡ 0 = omega arith in
        ap count64 l ∙ sym (ap count64 r)
    large (suc b) h =
        let e : count64 a ≡ 2 ^ 64 - 1 = omega (arith, h) in
        let l : 2 ^ 64 - 1 ≤ count64 a * suc b = omega (arith, e, mul-le-mul_left (count64 a) (least b)) in
        let r : 2 ^ 64 - 1 ≤ a * suc b = omega (arith, h, mul-le-mul_left a (least b)) in
        omega (arith, l, r)

-- ---- products with powers

one_pow : (n : ℕ) → 1 ^ n ≡ 1
one_pow zero = refl
one_pow (suc n) = pow-suc 1 n ∙ ap (λ k. k * 1) (one_pow n)

-- a product of products with powers is the product of the first factors times the power of the second ones' product
pub product_split : (f g : ℕ → ℕ) (n : ℕ) (xs : List ℕ) → product (map (λ p. f p * g p ^ n) xs) ≡ product (map f xs) * product (map g xs) ^ n
product_split f g n [] = let e : 1 ^ n ≡ 1 = one_pow n in omega (arith, e)
product_split f g n (x ∷ xs) =
    ap (λ k. f x * g x ^ n * k) (product_split f g n xs)
    ∙ swap (f x) (g x ^ n) (product (map f xs)) (product (map g xs) ^ n)
    ∙ ap (λ k. f x * product (map f xs) * k) (sym (mul-pow (g x) (product (map g xs)) n))
  where
    swap : (a b d e : ℕ) → a * b * (d * e) ≡ a * d * (b * e)
    swap a b d e =
        mul_assoc a b (d * e) ∙ ap (λ k. a * k) (sym (mul_assoc b d e) ∙ ap (λ k. k * e) (mul_comm b d) ∙ mul_assoc d b e) ∙ sym (mul_assoc a d (b * e))

-- ---- all families

-- the numbers of the first units
abbrev pub first_units : List PartId → ℕ → List ℕ
first_units units i = map (λ (p : PartId). p.0) (take i units)

-- a line unit more adds its tables to those of the families before it
pub work_more : (tables : ℕ → ℕ) (units : List PartId) (i total own next : ℕ) → i < length units → own ≡ count64 (tables (get_or units i (record { 0 = 0 })).0)
    → next ≡ count64 (total + own) → total ≡ count64 (sum_by tables (first_units units i)) → next ≡ count64 (sum_by tables (first_units units (i + 1)))
work_more tables units i total own next within own_is e h =
    let xs : List ℕ = first_units units i in
    let p = (get_or units i (record { 0 = 0 })).0 in
    e ∙ ap₂ (λ m n. count64 (m + n)) h own_is ∙ both (sum_by tables xs) (tables p)
    ∙ ap count64 (sym (ap (sum_by tables) (map_more (λ (q : PartId). q.0) units i (record { 0 = 0 }) within) ∙ sum_by-append tables xs (p ∷ []) ∙ one (sum_by tables xs) (tables p)))
  where
    both : (x y : ℕ) → count64 (count64 x + count64 y) ≡ count64 (x + y)
    both x y = omega arith

    one : (n x : ℕ) → n + (0 + x) ≡ n + x
    one n x = omega arith
