-- Numbers in a row: those that pass a test, and lists with an entry for each.
use Rattle.std.proofs.Common.{◌≡◌, ℕ, zero, suc, ◌+◌, ◌-◌, ◌*◌, ◌<◌, ◌≤◌, Bool, true, false, List, [], cond, ◌∷◌, ◌++◌, length, filter, map, get_or, flat_map, All, refl, sym, ap, ◌∙◌, ap₂, subst, arith, add-one, append-nil, length-append, zero-add}
use Rattle.std.proofs.lemmas.List.{flat_map_more, get_or_append_left, get_or-append-add}
use Rattle.std.proofs.lemmas.List.Elements.{filter-append}
use Rattle.std.proofs.lemmas.List.FromFn.{get_or-map-range_with_len, map-range_with_len_more, length-map-range_with_len}
use Rattle.std.specs.List.{range_with_len, AllByRecursion}

-- the numbers from a on, one more of them, end with the next one
pub range_more : (a n j : ℕ) → a + n ≡ j → range_with_len a (suc n) ≡ range_with_len a n ++ j ∷ []
range_more a zero j e = let same : a ≡ j = omega arith in ap (λ (k : ℕ). k ∷ []) same
range_more a (suc n) j e = ap (λ (l : List ℕ). a ∷ l) (range_more (a + 1) n j (omega arith))

-- the numbers up to n are those below it and then n
range_next : (n : ℕ) → range_with_len 0 (n + 1) ≡ range_with_len 0 n ++ n ∷ []
range_next n = ap (range_with_len 0) (add-one n) ∙ range_more 0 n n (omega arith)

-- the numbers up to n that pass a test are those below it, and n where it passes
pub filter_next : (t : ℕ → Bool) (n : ℕ) → filter t (range_with_len 0 (n + 1)) ≡ filter t (range_with_len 0 n) ++ cond (t n) (n ∷ []) []
filter_next t n = ap (filter t) (range_next n) ∙ filter-append t (range_with_len 0 n) (n ∷ [])

passed_step : (t : ℕ → Bool) (m x : ℕ) (xs : List ℕ) (b : Bool) → x < m → t x ≡ b → AllByRecursion (λ y. (y < m) × (t y ≡ true)) xs
    → AllByRecursion (λ y. (y < m) × (t y ≡ true)) (cond b (x ∷ xs) xs)
passed_step t m x xs true l e h = ((l, e), h)
passed_step t m x xs false l e h = h

-- what a filter leaves of a range lies in it and passes its test
pub passed : (t : ℕ → Bool) (m n a : ℕ) → a + n ≤ m → AllByRecursion (λ x. (x < m) × (t x ≡ true)) (filter t (range_with_len a n))
passed t m zero a h = tt
passed t m (suc n) a h = passed_step t m a (filter t (range_with_len (a + 1) n)) (t a) (omega arith) refl (passed t m n (a + 1) (omega arith))

-- with the next number's entry appended, there is one for each of one number more
pub mapped_more : {X : Type 0} (f : ℕ → X) (k : ℕ) (xs ys : List X) (x : X) → ys ≡ xs ++ x ∷ [] → xs ≡ map f (range_with_len 0 k) → x ≡ f k
    → ys ≡ map f (range_with_len 0 (k + 1))
mapped_more f k xs ys x e h t =
    e ∙ (ap (λ zs. zs ++ x ∷ []) h ∙ (ap (λ z. map f (range_with_len 0 k) ++ z ∷ []) t ∙ sym (map-range_with_len_more f 0 k k (zero-add k))))

-- one number more, by its test
pub kept_more : (t : ℕ → Bool) (n : ℕ) → t n ≡ true → filter t (range_with_len 0 (n + 1)) ≡ filter t (range_with_len 0 n) ++ n ∷ []
kept_more t n h = filter_next t n ∙ ap (λ b. filter t (range_with_len 0 n) ++ cond b (n ∷ []) []) h

-- a number that fails the test adds nothing to those that pass it
pub left_out : (t : ℕ → Bool) (n : ℕ) → t n ≡ false → filter t (range_with_len 0 (n + 1)) ≡ filter t (range_with_len 0 n)
left_out t n h =
    filter_next t n ∙ ap (λ b. filter t (range_with_len 0 n) ++ cond b (n ∷ []) []) h
    ∙ append-nil (filter t (range_with_len 0 n))

-- the element at place k of row i, where each row has n elements
pub flat_at : {X : Type 0} (g : ℕ → ℕ → X) (n : ℕ) (d : X) (xs : List ℕ) (i k : ℕ) → i < length xs → k < n
    → get_or (flat_map (λ p. map (g p) (range_with_len 0 n)) xs) (i * n + k) d ≡ g (get_or xs i 0) k
flat_at g n d [] i k h l = absurd (omega arith)
flat_at g n d (x ∷ xs) zero k h l =
    let at : 0 * n + k ≡ k = omega arith in
    ap (λ j. get_or (map (g x) (range_with_len 0 n) ++ flat_map (λ p. map (g p) (range_with_len 0 n)) xs) j d) at
    ∙ get_or_append_left (map (g x) (range_with_len 0 n)) (flat_map (λ p. map (g p) (range_with_len 0 n)) xs) d k (omega (arith, l, length-map-range_with_len (g x) 0 n))
    ∙ get_or-map-range_with_len (g x) 0 n k k d l (omega arith)
flat_at g n d (x ∷ xs) (suc i) k h l =
    let at : suc i * n + k ≡ length (map (g x) (range_with_len 0 n)) + (i * n + k) = omega (arith, length-map-range_with_len (g x) 0 n) in
    ap (λ j. get_or (map (g x) (range_with_len 0 n) ++ flat_map (λ p. map (g p) (range_with_len 0 n)) xs) j d) at
    ∙ get_or-append-add (map (g x) (range_with_len 0 n)) (flat_map (λ p. map (g p) (range_with_len 0 n)) xs) (i * n + k) d
    ∙ flat_at g n d xs i k (omega arith) l

-- rows of n elements each make n elements for each row
pub flat_length : {X : Type 0} (g : ℕ → ℕ → X) (n : ℕ) (xs : List ℕ) → length (flat_map (λ p. map (g p) (range_with_len 0 n)) xs) ≡ length xs * n
flat_length g n [] = omega arith
flat_length g n (x ∷ xs) =
    length-append (map (g x) (range_with_len 0 n)) (flat_map (λ p. map (g p) (range_with_len 0 n)) xs)
    ∙ ap₂ (λ a b. a + b) (length-map-range_with_len (g x) 0 n) (flat_length g n xs) ∙ more (length xs) n
  where
    more : (m n : ℕ) → n + m * n ≡ suc m * n
    more m n = omega arith

-- what holds of each number from a on below a + n holds along these numbers
pub each_in_range : (P : ℕ → Type 0) (n a : ℕ) → ((k : ℕ) → a ≤ k → k < a + n → P k) → AllByRecursion P (range_with_len a n)
each_in_range P zero a h = tt
each_in_range P (suc n) a h = (h a (omega arith) (omega arith), each_in_range P n (a + 1) (λ k l m. h k (omega arith) (omega arith)))

-- with one more number's entry appended, there is one for each number from a to s
pub mapped_from : {X : Type 0} (f : ℕ → X) (a s : ℕ) (xs ys : List X) (x : X) → a ≤ s → ys ≡ xs ++ x ∷ [] → xs ≡ map f (range_with_len a (s - a)) → x ≡ f s
    → ys ≡ map f (range_with_len a (s + 1 - a))
mapped_from {X} f a s xs ys x h e g t =
    let next : s - a + 1 ≡ s + 1 - a = omega (arith, h) in
    let at : a + (s - a) ≡ s = omega (arith, h) in
    e ∙ ap₂ (λ (zs : List X) (z : X). zs ++ z ∷ []) g t
    ∙ sym (map-range_with_len_more f a (s - a) s at)
    ∙ ap (λ n. map f (range_with_len a n)) next

-- where there is an entry for each of n numbers from a on, there is one at each such place
pub count_from : {X : Type 0} (f : ℕ → X) (a n i : ℕ) (xs : List X) → xs ≡ map f (range_with_len a n) → i < n → i < length xs
count_from f a n i xs e l = omega (arith, l, ap (λ (ys : List _). length ys) e, length-map-range_with_len f a n)

-- the entry at such a place is that of its number
pub read_from : {X : Type 0} (f : ℕ → X) (a n i s : ℕ) (xs : List X) (x : X) → xs ≡ map f (range_with_len a n) → i < n → s ≡ a + i → x ≡ get_or xs i x → x ≡ f s
read_from f a n i s xs x e l t r = r ∙ ap (λ ys. get_or ys i x) e ∙ get_or-map-range_with_len f a n i s x l (omega (arith, t))

-- what holds of the entry of each number below n holds of all entries
pub all_numbered : {X : Type 0} (Q : X → Type 0) (h : ℕ → X) (n : ℕ) → ((k : ℕ) → k < n → Q (h k)) → All Q (map h (range_with_len 0 n))
all_numbered Q h n e k d l =
    let m : k < n = omega (arith, l, length-map-range_with_len h 0 n) in
    subst Q (sym (get_or-map-range_with_len h 0 n k k d m (omega arith))) (e k m)

each_tested : (P : ℕ → Type 0) (b : Bool) (x : ℕ) (xs : List ℕ) → (b ≡ true → P x) → AllByRecursion P xs → AllByRecursion P (cond b (x ∷ xs) xs)
each_tested P true x xs h k = (h refl, k)
each_tested P false x xs h k = k

-- what holds of each of these numbers that passes a test holds along those that pass
pub each_that_passes : (P : ℕ → Type 0) (t : ℕ → Bool) (n a : ℕ) → ((k : ℕ) → k < a + n → t k ≡ true → P k) → AllByRecursion P (filter t (range_with_len a n))
each_that_passes P t zero a h = tt
each_that_passes P t (suc n) a h =
    each_tested P (t a) a (filter t (range_with_len (a + 1) n)) (h a (omega arith)) (each_that_passes P t n (a + 1) (λ k l e. h k (omega arith) e))

short_tested : (b : Bool) (x n : ℕ) (xs : List ℕ) → length xs ≤ n → length (cond b (x ∷ xs) xs) ≤ suc n
short_tested true x n xs h = omega arith
short_tested false x n xs h = omega arith

-- at most n of n numbers pass a test
pub few_that_pass : (t : ℕ → Bool) (n a : ℕ) → length (filter t (range_with_len a n)) ≤ n
few_that_pass t zero a = omega arith
few_that_pass t (suc n) a = short_tested (t a) a n (filter t (range_with_len (a + 1) n)) (few_that_pass t n (a + 1))

-- with row p put behind the first p rows, there are the first p + 1 rows
pub rows_more : {X : Type 0} (g : ℕ → List X) (p : ℕ) (all row new : List X) → new ≡ all ++ row → all ≡ flat_map g (range_with_len 0 p) → row ≡ g p
    → new ≡ flat_map g (range_with_len 0 (p + 1))
rows_more {X} g p all row new e h k =
    e ∙ ap₂ (λ (a b : List X). a ++ b) h k ∙ flat_map_more g [] (range_with_len 0 p) p ∙ ap (flat_map g) (sym (range_next p))
