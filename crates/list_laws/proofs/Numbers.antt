-- Numbers: products, quotients, fractions and the smaller of two.
use Rattle.std.proofs.Common.{◌≡◌, ◌≢◌, ℕ, zero, ◌==◌, suc, ◌+◌, ◌-◌, ◌*◌, ◌/◌, ◌<◌, ◌≤◌, Bool, true, ◌⊎◌, min, false, inl, inr, ap, ◌∙◌, if◌then◌else◌, subst, arith, mul-le-mul_left, mul-le-mul_right, eq-or-lt_of_le}
use Rattle.std.proofs.Math.Nat.{div-mul-le_self, mul-lt-mul_of_pos_left, div-eq_of_lt-le, lt_of_mul-lt-mul_right, le-mul_of_pos_right, lt_of_mul-lt-mul_left}
use Rattle.std.proofs.lemmas.Bool.{cases_lt}
use Rattle.std.proofs.lemmas.Grind.{div_ceil_times}
use Rattle.std.proofs.lemmas.Nat.{rows as rows_fit, div-add-mod', le-div}
use Rattle.std.specs.Int.{div_ceil}

-- products of fractions a/b and c/d are those of equal ones
pub products_same : (a b c d a' b' c' d' : ℕ) → a * b' ≡ a' * b → c * d' ≡ c' * d → (a * c) * (b' * d') ≡ (a' * c') * (b * d)
products_same a b c d a' b' c' d' h k =
    let i : (c * d') * (a * b') ≡ (c * d') * (a' * b) = ap (λ z. (c * d') * z) h in
    let j : (a' * b) * (c * d') ≡ (a' * b) * (c' * d) = ap (λ z. (a' * b) * z) k in
    omega arith

-- a quotient rounded up, times its divisor, is at least the dividend
pub ceil_above : (a b : ℕ) → 0 < b → a ≤ div_ceil a b * b
ceil_above a b p = (div_ceil_times a b p).0

-- of fractions al/o at most a/b and bl/o at most c/d the sum is at most the sum
pub sum_no_more : (o al a b bl c d : ℕ) → al * b ≤ a * o → bl * d ≤ c * o → (al + bl) * (b * d) ≤ (a * d + c * b) * o
sum_no_more o al a b bl c d h k = omega (arith, mul-le-mul_left d h, mul-le-mul_left b k)

-- of fractions ah/o at least a/b and bh/o at least c/d the sum is at least the sum
pub sum_no_less : (o ah a b bh c d : ℕ) → a * o ≤ ah * b → c * o ≤ bh * d → (a * d + c * b) * o ≤ (ah + bh) * (b * d)
sum_no_less o ah a b bh c d h k = omega (arith, mul-le-mul_left d h, mul-le-mul_left b k)

grows : (a b k : ℕ) → a ≤ b → a * k ≤ b * k
grows a b k h = mul-le-mul_right k h

grows_turned : (a b k : ℕ) → b ≤ a → b * k ≤ a * k
grows_turned a b k h = mul-le-mul_right k h

-- the smaller of two numbers, times a third, is the smaller of both times it
pub min_steps : (a c k : ℕ) → min a c * k ≡ min (a * k) (c * k)
min_steps a c k = grind (arith, grows a c k, grows_turned a c k)

-- a quotient rounded up is at most its dividend
pub ceil_le : (a b : ℕ) → 0 < b → div_ceil a b ≤ a
ceil_le a b p = omega (arith, div-add-mod' a b, le-mul_of_pos_right (a / b) p)

-- a quotient of at most top is still so when it is rounded up
pub ceil_most : (a b top : ℕ) → 0 < b → a ≤ top * b → div_ceil a b ≤ top
ceil_most a b top p h =
    let t = div_ceil_times a b p in
    let x : div_ceil a b < top + 1 = lt_of_mul-lt-mul_right b (omega (arith, t.1, h)) in
    omega arith

-- a quotient rounded down is at most one rounded up of a dividend no smaller by a divisor no larger
pub floor_below_ceil : (a b c d : ℕ) → a ≤ c → 0 < d → d ≤ b → a / b ≤ div_ceil c d
floor_below_ceil a b c d h p q =
    let k : a / b ≤ c / d = le-div (a / b) c d p (omega (arith, mul-le-mul_left (a / b) q, div-mul-le_self a b, h)) in
    omega arith

-- the quotient rounded up is the only number of this kind
pub ceil_is : (a b k : ℕ) → 0 < b → a ≤ k * b → k * b < a + b → k ≡ div_ceil a b
ceil_is a b k p l u =
    let t = div_ceil_times a b p in
    let x : k < div_ceil a b + 1 = lt_of_mul-lt-mul_right b (omega (arith, t.0, u)) in
    let y : div_ceil a b < k + 1 = lt_of_mul-lt-mul_right b (omega (arith, t.1, l)) in
    omega arith

-- to round up is to add the divisor less 1 and round down
pub ceil_by_sum : (a b : ℕ) → 0 < b → (a + (b - 1)) / b ≡ div_ceil a b
ceil_by_sum a b p =
    let t = div_ceil_times a b p in
    div-eq_of_lt-le b (omega (arith, t.1)) (omega (arith, t.0))

-- a row and a column within their counts give a place within the table
pub place_fits : (a k m n : ℕ) → a < m → k < n → a * n + k < m * n
place_fits a k m n la lk = grind (arith, rows_fit)

-- a place between a * n and a * n is p * s, where a is p and n is s
pub all_places : (i a n p s : ℕ) → a ≡ p → n ≡ s → a * n ≤ i → i ≤ a * n → i ≡ p * s
all_places i a n p s e f past within = rw (← e, ← f) (omega (arith, past, within))

-- nothing is at most any number
pub zero_most : (n most : ℕ) → n ≡ 0 → n ≤ most
zero_most n most e = omega (arith, e)

-- either of two numbers that are at most another is so
pub chosen_most : (b : Bool) (m n most : ℕ) → m ≤ most → n ≤ most → (if b then m else n) ≤ most
chosen_most true m n most h k = h
chosen_most false m n most h k = k

-- a number from a on is a or from a + 1 on
pub first_or_later : (a j : ℕ) → a ≤ j → (j ≡ a) ⊎ (a + 1 ≤ j)
first_or_later a j h = grind arith

-- what is below a product is below that of the same numbers
pub within_product : (i a b x y : ℕ) → a ≡ x → b ≡ y → i < a * b → i < x * y
within_product i a b x y e f h = subst (λ m. i < m * y) e (subst (λ m. i < a * m) f h)

-- ratios of at most 1 stay so where the numerator gains no more than the denominator
pub ratio_stays : (m e q x y : ℕ) → 0 < x → x ≤ y → m + e * (x - 1) ≤ q * x → e ≤ q → m + e * (y - 1) ≤ q * y
ratio_stays m e q x y p h l s =
    let i : y - 1 ≡ (x - 1) + (y - x) = omega arith in
    let j : y ≡ x + (y - x) = omega arith in
    let a : e * (y - 1) ≡ e * (x - 1) + e * (y - x) = ap (λ z. e * z) i ∙ omega arith in
    let b : q * y ≡ q * x + q * (y - x) = ap (λ z. q * z) j ∙ omega arith in
    omega (arith, a, b, l, mul-le-mul_right (y - x) s)

-- what holds below a number and at it holds below the next
pub below_more : (P : ℕ → Type 0) (n : ℕ) → ((x : ℕ) → x < n → P x) → P n → (x : ℕ) → x < n + 1 → P x
below_more P n h k x l = elim (eq-or-lt_of_le {n = suc x} {m = n + 1} l) [
  | inl e ↦ (let i : n ≡ x = omega arith in subst P i k)
  | inr m ↦ h x (omega arith)
]

-- one more than the numbers from 1 on below j are those below j + 1
pub before_next : (j : ℕ) → 1 ≤ j → j - 1 + 1 ≡ j + 1 - 1
before_next j h = omega (arith, h)

-- fractions h/e, g/d, f/c that rise: the first is below the last
pub fractions_fall : (f c g d h e : ℕ) → h * d < g * e → g * c < f * d → 0 < c → h * c < f * e
fractions_fall f c g d h e x y z =
    let k : c * (h * d) < c * (g * e) = mul-lt-mul_of_pos_left x z in
    let l : e * (g * c) ≤ e * (f * d) = mul-le-mul_left e (let i : g * c ≤ f * d = omega arith in i) in
    let m : d * (h * c) < d * (f * e) = omega arith in
    lt_of_mul-lt-mul_left d m

-- two numbers, each no less, make together no less, each by its weight
pub weighted_no_less : (p q vl vc wl wc : ℕ) → vl ≤ wl → vc ≤ wc → q * vl + p * vc ≤ q * wl + p * wc
weighted_no_less p q vl vc wl wc a b = let k = mul-le-mul_left q a in let l = mul-le-mul_left p b in omega (arith, k, l)

-- fractions h/e, g/d, f/c, the first below the second, the second at most the third: the first is below the last
pub fractions_fall_on : (f c g d h e : ℕ) → h * d < g * e → g * c ≤ f * d → 0 < c → h * c < f * e
fractions_fall_on f c g d h e x y z =
    let k : c * (h * d) < c * (g * e) = mul-lt-mul_of_pos_left x z in
    let l : e * (g * c) ≤ e * (f * d) = mul-le-mul_left e y in
    let m : d * (h * c) < d * (f * e) = omega arith in
    lt_of_mul-lt-mul_left d m

-- a fraction of at most one below p/q is below it
pub fraction_below : (f c g d p q : ℕ) → g * c ≤ f * d → f * q < p * c → 0 < d → g * q < p * d
fraction_below f c g d p q h k z =
    let m : c * (g * q) ≤ d * (f * q) = (let i : q * (g * c) ≤ q * (f * d) = mul-le-mul_left q h in omega arith) in
    let n : d * (f * q) < d * (p * c) = mul-lt-mul_of_pos_left k z in
    lt_of_mul-lt-mul_left c (let i : c * (g * q) < c * (p * d) = omega arith in i)

-- two numbers are equal or not
pub same_or_not : (i j : ℕ) → (i ≡ j) ⊎ (i ≢ j)
same_or_not i j = elim (cases_lt i j) [
  | inl a ↦ inr (λ e. omega (arith, a, e))
  | inr b ↦ elim (cases_lt j i) [ inl a ↦ inr (λ e. omega (arith, a, e)) | inr k ↦ inl (omega (arith, b, k)) ]
]

-- of two numbers one is no larger, or the other is smaller
pub le_or_gt : (x y : ℕ) → (x ≤ y) ⊎ (y < x)
le_or_gt x y = grind arith

-- one of some equal numbers is at most what is no less than all together
pub one_of : (n v m : ℕ) → 0 < n → n * v ≤ m → v ≤ m
one_of n v m some h = let one : 1 * v ≤ n * v = mul-le-mul_right v some in omega (arith, one, h)

-- what is held so far and one part more, of as many as there is room for
pub room_for : (n most v a b m : ℕ) → a ≤ b + n * v → n < most → b + most * v ≤ m → a + v ≤ m
room_for n most v a b m f l h = let more : (n + 1) * v ≤ most * v = mul-le-mul_right v (let k : n + 1 ≤ most = omega arith in k) in omega (arith, f, more, h)

-- what is below f + 1 is below f or is f
pub below_or : (g f : ℕ) → g < f + 1 → (g < f) ⊎ (g ≡ f)
below_or g f h = grind arith

-- a product above a number has no factor 0
pub some_of_less : (a b q : ℕ) → a < b * q → 0 < q
some_of_less a b zero h = absurd (omega (arith, h))
some_of_less a b (suc q) h = omega arith

-- numbers that compare as equal are equal
pub same_number : (a b : ℕ) → (a == b) ≡ true → a ≡ b
same_number a b h = grind arith
