-- Sums over lists and over numbers in a row.
use Rattle.std.proofs.Common.{◌≡◌, ℕ, zero, suc, ◌+◌, ◌<◌, ◌≤◌, List, inl, [], inr, ◌∷◌, ◌++◌, map, flat_map, refl, sum_by, sum, sym, ap, ◌∙◌, ap₂, arith, eq-or-lt_of_le}
use Rattle.std.proofs.lemmas.List.Sums.{sum_by-cons}
use Rattle.std.specs.List.{range_with_len, AllByRecursion}

-- f(0) + .. + f(n - 1)
abbrev pub total : (ℕ → ℕ) → ℕ → ℕ
total f zero = 0
total f (suc n) = total f n + f n

-- sums over a list are equal where the terms are equal at each of its members
pub count_each : (xs : List ℕ) (f g : ℕ → ℕ) → AllByRecursion (λ i. f i ≡ g i) xs → sum_by f xs ≡ sum_by g xs
count_each [] f g h = refl
count_each (x ∷ xs) f g h = sum_by-cons f x xs ∙ ap₂ (λ a b. a + b) h.0 (count_each xs f g h.1) ∙ sym (sum_by-cons g x xs)

-- the sum of two terms for each member is the two sums together
pub sum_plus : (f g : ℕ → ℕ) (xs : List ℕ) → sum_by (λ x. f x + g x) xs ≡ sum_by f xs + sum_by g xs
sum_plus f g [] = refl
sum_plus f g (x ∷ xs) = omega (arith, sum_by-cons (λ y. f y + g y) x xs, sum_by-cons f x xs, sum_by-cons g x xs, sum_plus f g xs)

-- sums over a list are equal where the terms are equal everywhere
pub sum_each : (f g : ℕ → ℕ) (xs : List ℕ) → ((x : ℕ) → f x ≡ g x) → sum_by f xs ≡ sum_by g xs
sum_each f g [] h = refl
sum_each f g (x ∷ xs) h = omega (arith, sum_by-cons f x xs, sum_by-cons g x xs, h x, sum_each f g xs h)

sum_zero : (xs : List ℕ) → sum_by (λ x. 0) xs ≡ 0
sum_zero [] = refl
sum_zero (x ∷ xs) = omega (arith, sum_by-cons (λ y. 0) x xs, sum_zero xs)

-- the order of two sums
pub sum_turned : (f : ℕ → ℕ → ℕ) (xs ys : List ℕ) → sum_by (λ x. sum_by (f x) ys) xs ≡ sum_by (λ y. sum_by (λ x. f x y) xs) ys
sum_turned f [] ys = sym (sum_zero ys)
sum_turned f (x ∷ xs) ys =
    sum_by-cons (λ z. sum_by (f z) ys) x xs
    ∙ ap (λ z. sum_by (f x) ys + z) (sum_turned f xs ys)
    ∙ sym (sum_plus (f x) (λ y. sum_by (λ z. f z y) xs) ys)
    ∙ sum_each _ _ ys (λ y. sym (sum_by-cons (λ z. f z y) x xs))

-- sums over numbers in a row are equal where the terms are equal below the end
pub same_sum_range : (f g : ℕ → ℕ) (n a : ℕ) → ((x : ℕ) → x < a + n → f x ≡ g x) → sum_by f (range_with_len a n) ≡ sum_by g (range_with_len a n)
same_sum_range f g zero a h = refl
same_sum_range f g (suc n) a h =
    omega (
      arith,
      sum_by-cons f a (range_with_len (a + 1) n),
      sum_by-cons g a (range_with_len (a + 1) n),
      h a (omega arith),
      same_sum_range f g n (a + 1) (λ x l. h x (omega arith)),
    )

-- one more number of a range
alone : (a : ℕ) → a ≡ a + 0
alone a = omega arith

-- the 1 may be taken to either number
pub later : (a n : ℕ) → a + 1 + n ≡ a + suc n
later a n = omega arith

-- a sum over one number more has one term more
pub sum_more : (g : ℕ → ℕ) (a n : ℕ) → sum_by g (range_with_len a (suc n)) ≡ sum_by g (range_with_len a n) + g (a + n)
sum_more g a zero = omega (arith, sum_by-cons g a [], ap g (alone a))
sum_more g a (suc n) =
    omega (arith, sum_by-cons g a (range_with_len (a + 1) (suc n)), sum_by-cons g a (range_with_len (a + 1) n), sum_more g (a + 1) n, ap g (later a n))

-- a term is at most the sum of all
pub total_most : (g : ℕ → ℕ) (n x : ℕ) → x < n → g x ≤ total g n
total_most g zero x l = absurd (omega arith)
total_most g (suc n) x l = elim (eq-or-lt_of_le {n = suc x} {m = suc n} l) [
  | inl e ↦ (let i : x ≡ n = omega arith in rw i (omega arith))
  | inr k ↦ (let q = total_most g n x (omega arith) in omega arith)
]

-- a sum is its first number and the sum of the rest
pub sum_cons : (c : ℕ) (cs : List ℕ) → sum (c ∷ cs) ≡ c + sum cs
sum_cons c cs = sum_by-cons (λ x. x) c cs

sum_append : {A : Type 0} (f : A → ℕ) (xs ys : List A) → sum_by f (xs ++ ys) ≡ sum_by f xs + sum_by f ys
sum_append f [] ys = omega arith
sum_append f (x ∷ xs) ys = omega (arith, sum_by-cons f x (xs ++ ys), sum_by-cons f x xs, sum_append f xs ys)

-- a sum over images is a sum over the list
pub sum_mapped : {A B : Type 0} (f : B → ℕ) (g : A → B) (xs : List A) → sum_by f (map g xs) ≡ sum_by (λ x. f (g x)) xs
sum_mapped f g [] = refl
sum_mapped f g (x ∷ xs) = omega (arith, sum_by-cons f (g x) (map g xs), sum_by-cons (λ y. f (g y)) x xs, sum_mapped f g xs)

-- a sum over rows together is the sum of the sums over each
pub sum_flat : {A B : Type 0} (f : B → ℕ) (g : A → List B) (xs : List A) → sum_by f (flat_map g xs) ≡ sum_by (λ x. sum_by f (g x)) xs
sum_flat f g [] = refl
sum_flat f g (x ∷ xs) = omega (arith, sum_append f (g x) (flat_map g xs), sum_by-cons (λ y. sum_by f (g y)) x xs, sum_flat f g xs)
