-- The ratios in parts: their sizes, their ends, and the step to the next index.
use Rattle.std.proofs.Common.{◌≡◌, ℕ, ◌+◌, ◌-◌, ◌*◌, ◌/◌, ◌%◌, ◌^◌, ◌<◌, ◌≤◌, refl, ap, ap₂, sym, ◌∙◌, subst, arith, le_trans, pow_pos, mul-le-mul_right, mul-le-mul}
use Rattle.std.specs.Int.{div_ceil}
use Rattle.std.proofs.Math.Nat.{mul-pos, mul-le-mul_left, lt_of_mul-lt-mul_right, div-mul-le_self, mul-div-mul_left, mod-eq_of_lt}
use Rattle.std.proofs.lemmas.Grind.{div_ceil_times}
use Rattle.list_laws.proofs.Public.{ceil_by_sum, ceil_is, floor_below_ceil}
use Rattle.fixed_interval.specs.Ends.{Ends, ends_add, ends_div, ends_exact}
use Rattle.fixed_interval.proofs.Public.{unit_most}
use Rattle.series_bounds.specs.Profile.{ratio_ends}
use Rattle.quotients.specs.Parts.{AreParts}
use Rattle.quotients.specs.declared.parts.Parts.{Parts}
use Rattle.quotients.proofs.Public.{floor_twice}
use Rattle.series_bounds.proofs.Ranges.{part_most, part_room, raised_most}

-- the whole part of a number below so many times the divisor
below_room : (n d t : ℕ) (p : Parts) → AreParts n d p → n < t * d → p.whole < t
below_room n d t p h l = lt_of_mul-lt-mul_right d (omega (arith, h.sum))

-- the parts of the numerator and of its step have room
pub whole_room : (f m e k d : ℕ) (p : Parts) → f ≤ 52 → m ≤ 256 * 2 ^ f → 2 ^ f ≤ d → e ≤ d → k ≤ 1025 → AreParts ((m + e * (k - 1)) * 2 ^ f) d p → p.whole < 2 ^ 63
whole_room f m e k d p s h l i q a =
    below_room ((m + e * (k - 1)) * 2 ^ f) d (2 ^ 63) p a (part_room (2 ^ f) (m + e * (k - 1)) d (unit_most f s) (omega (arith, l, pow_pos f)) (part_most (2 ^ f) m e k d h l i q))

-- the same of the upper numerator, raised
pub raised_room : (f m e k d : ℕ) (p : Parts) → f ≤ 52 → m ≤ 256 * 2 ^ f → 2 ^ f ≤ d → e ≤ d → k ≤ 1025 → AreParts ((m + e * (k - 1)) * 2 ^ f + k * d - 1) d p → p.whole < 2 ^ 63
raised_room f m e k d p s h l i q a =
    let r = raised_most (2 ^ f) (m + e * (k - 1)) d k (unit_most f s) (omega (arith, l, pow_pos f)) (part_most (2 ^ f) m e k d h l i q) q in
    below_room ((m + e * (k - 1)) * 2 ^ f + k * d - 1) d (2 ^ 63) p a r

-- what the next index adds to the raised one
pub raised_step_room : (f e d : ℕ) (p : Parts) → f ≤ 52 → 0 < d → e ≤ d → AreParts (e * 2 ^ f + d) d p → p.whole < 2 ^ 63
raised_step_room f e d p s l q a =
    let u : e * 2 ^ f ≤ d * 2 ^ 52 = mul-le-mul q (unit_most f s) in
    below_room (e * 2 ^ f + d) d (2 ^ 63) p a (omega (arith, u, l))

-- what the next index adds to a ratio has a whole part below 2^63
pub step_room : (f e d : ℕ) (p : Parts) → f ≤ 52 → 0 < d → e ≤ d → AreParts (e * 2 ^ f) d p → p.whole < 2 ^ 63
step_room f e d p s l q a = below_room (e * 2 ^ f) d (2 ^ 63) p a (part_room (2 ^ f) e d (unit_most f s) l (omega (arith, q)))

-- the divisors
pub below_is : (f : ℕ) (d one below : Ends) → one ≡ ends_exact f 1 → below ≡ ends_add one d → below ≡ record { lo = 1 * 2 ^ f + d.lo; hi = 1 * 2 ^ f + d.hi }
below_is f d one below h k = k ∙ ap (λ (z : Ends). ends_add z d) h

-- the ends of the ratio
pub ends_are : (f : ℕ) (m d : Ends) (x lo hi : ℕ) (r : Ends) → r ≡ record { lo = lo; hi = hi }
    → lo ≡ (m.lo + d.lo * (x - 1)) * 2 ^ f / ((1 * 2 ^ f + d.hi) * x) → hi ≡ div_ceil ((m.hi + d.hi * (x - 1)) * 2 ^ f) ((1 * 2 ^ f + d.lo) * x)
    → r ≡ ratio_ends f m d x
unfolding ratio_ends
ends_are f m d x lo hi r e h k = rw (e, h, k) refl

-- the next numerator
next_num : (m e x o : ℕ) → 0 < x → (m + e * (x - 1)) * o + e * o ≡ (m + e * (x + 1 - 1)) * o
next_num m e x o p =
    let a : e * (x - 1) + e ≡ e * x = (let i : x - 1 + 1 ≡ x = omega arith in omega (arith, ap (λ z. e * z) i)) in
    let b : m + e * (x - 1) + e ≡ m + e * (x + 1 - 1) = (let i : x + 1 - 1 ≡ x = omega arith in rw i (omega (arith, a))) in
    omega (arith, ap (λ z. z * o) b)

-- the parts of a ratio's numerator with one step more are those at the next index
pub next_parts : (m e x o den d : ℕ) (p : Parts) → 0 < x → den ≡ d → AreParts ((m + e * (x - 1)) * o + e * o) den p → AreParts ((m + e * (x + 1 - 1)) * o) d p
next_parts m e x o den d p q h a = subst (λ z. AreParts z d p) (next_num m e x o q) (subst (λ z. AreParts ((m + e * (x - 1)) * o + e * o) z p) h a)

-- the same of the raised parts
pub next_raised : (m e x o den d : ℕ) (p : Parts) → 0 < x → 0 < d → den ≡ d → AreParts (((m + e * (x - 1)) * o + x * d - 1) + (e * o + d)) den p → AreParts ((m + e * (x + 1 - 1)) * o + (x + 1) * d - 1) d p
next_raised m e x o den d p q l h a =
    let n = next_num m e x o q in
    let b : 0 < x * d = mul-pos {m = x} {n = d} q l in
    let i : ((m + e * (x - 1)) * o + x * d - 1) + (e * o + d) ≡ (m + e * (x + 1 - 1)) * o + (x + 1) * d - 1 = omega (arith, n, b) in
    subst (λ z. AreParts z d p) i (subst (λ z. AreParts (((m + e * (x - 1)) * o + x * d - 1) + (e * o + d)) z p) h a)

-- a raised number over the index is the number rounded up
pub raised_over : (n d x : ℕ) (p : Parts) → 0 < x → 0 < d → AreParts (n + x * d - 1) d p → p.whole / x ≡ div_ceil n (d * x)
raised_over n d x p q l a =
    let b : 0 < d * x = mul-pos {m = d} {n = x} l q in
    let e : n + x * d - 1 ≡ n + (d * x - 1) = omega (arith, b) in
    floor_twice (n + x * d - 1) d x p a ∙ ap (λ z. z / (d * x)) e ∙ ceil_by_sum n (d * x) b

-- the lower whole part is at most the raised upper one
pub wholes_ordered : (n k d b x : ℕ) (p r : Parts) → n ≤ k → 0 < x → 0 < d → d ≤ b → AreParts n b p → AreParts (k + x * d - 1) d r → p.whole ≤ r.whole
wholes_ordered n k d b x p r l q t h a c =
    let u : 0 < x * d = mul-pos {m = x} {n = d} q t in
    let v : p.whole * d ≤ p.whole * b = mul-le-mul_left p.whole h in
    let w : p.whole * d < (r.whole + 1) * d = omega (arith, v, u, l, a.sum, c.sum, c.rest) in
    let y : p.whole < r.whole + 1 = lt_of_mul-lt-mul_right d w in
    omega (arith, y)

-- parts of a quotient are those of an equal numerator over an equal divisor
pub same_parts : (n k d e : ℕ) (p : Parts) → n ≡ k → d ≡ e → AreParts n d p → AreParts k e p
same_parts n k d e p h i a = subst (λ z. AreParts z e p) h (subst (λ z. AreParts n z p) i a)

-- a numerator of at most 1281 divisors, in units, is below 2^127
pub scaled_room : (f n o d : ℕ) → f ≤ 52 → o ≡ 2 ^ f → d < 2 ^ 64 → n ≤ 1281 * d → n * o < 2 ^ 127
scaled_room f n o d s e q l =
    let u = unit_most f s in
    let c : n * o ≤ (1281 * 2 ^ 64) * 2 ^ 52 = mul-le-mul {n₁ = n} {m₁ = o} {n₂ = 1281 * 2 ^ 64} {m₂ = 2 ^ 52} (omega (arith, q, l)) (omega (arith, u, e)) in
    omega (arith, c)

-- the lower end of a quotient is at most its upper one, where those of numerator and divisor are
pub share_ordered : (f al ah bl bh lower upper : ℕ) → al ≤ ah → 0 < bl → bl ≤ bh → lower ≡ al * 2 ^ f / bh → upper ≡ div_ceil (ah * 2 ^ f) bl → lower ≤ upper
share_ordered f al ah bl bh lower upper h p k e i = rw (e, i) (floor_below_ceil (al * 2 ^ f) bh (ah * 2 ^ f) bl (mul-le-mul_right (2 ^ f) h) p k)

-- a number that is below so many places of a larger one stays below it after the shift
pub shift_below : (x t p : ℕ) → x < t / p → x * p < t
shift_below x t p l =
    let a : (x + 1) * p ≤ t / p * p = mul-le-mul_right p (omega (arith, l)) in
    omega (arith, a, div-mul-le_self t p)

-- a quotient rounded up stays the same where both numbers are shifted
ceil_shift : (a b p : ℕ) → 0 < b → 0 < p → div_ceil (a * p) (b * p) ≡ div_ceil a b
ceil_shift a b p q h =
    let t = div_ceil_times a b q in
    let x : a * p ≤ div_ceil a b * b * p = mul-le-mul_right p t.0 in
    let y : (div_ceil a b * b + 1) * p ≤ (a + b) * p = mul-le-mul_right p (omega (arith, t.1)) in
    sym (ceil_is (a * p) (b * p) (div_ceil a b) (mul-pos {m = b} {n = p} q h) (omega (arith, x)) (omega (arith, y, h)))

-- so does a quotient of intervals
pub shifted_share : (f p : ℕ) (a b x : Ends) (upper lower : ℕ) → 0 < b.lo → 0 < b.hi → 0 < p → x ≡ record { lo = a.lo * p; hi = a.hi * p } → upper ≡ b.hi * p → lower ≡ b.lo * p
    → ends_div f x (record { lo = lower; hi = upper }) ≡ ends_div f a b
shifted_share f p a b x upper lower l h q e u k =
    let i : a.lo * p * 2 ^ f ≡ p * (a.lo * 2 ^ f) = omega arith in
    let n : b.hi * p ≡ p * b.hi = omega arith in
    let j : a.hi * p * 2 ^ f ≡ a.hi * 2 ^ f * p = omega arith in
    let low : a.lo * p * 2 ^ f / (b.hi * p) ≡ a.lo * 2 ^ f / b.hi = ap₂ (λ y z. y / z) i n ∙ mul-div-mul_left (a.lo * 2 ^ f) b.hi q in
    let high : div_ceil (a.hi * p * 2 ^ f) (b.lo * p) ≡ div_ceil (a.hi * 2 ^ f) b.lo = ap (λ z. div_ceil z (b.lo * p)) j ∙ ceil_shift (a.hi * 2 ^ f) b.lo p l q in
    rw (e, u, k) (ap₂ (λ y z. record { lo = y; hi = z }) low high)

-- a number of fewer than 64 bits after the shift loses none
pub shift_is : (y x p : ℕ) → y ≡ x → x * p < 2 ^ 63 → y * p % 2 ^ 64 ≡ x * p
shift_is y x p e l = ap (λ z. z * p % 2 ^ 64) e ∙ mod-eq_of_lt (omega (arith, l))

-- a number that is at most so many places of a larger one is at most that after the shift
pub shift_most : (y x t p : ℕ) → y ≡ x → y ≤ t / p → x * p ≤ t
shift_most y x t p e l = le_trans (mul-le-mul_right p (rw e at l)) (div-mul-le_self t p)

-- a divisor's shift of 64 bits is in a divisor's range
pub shift_fits : (o y x p : ℕ) → y ≡ x → o ≤ x * p → x * p < 2 ^ 63 → (o ≤ y * p % 2 ^ 64) × (y * p % 2 ^ 64 < 2 ^ 63)
shift_fits o y x p e l h = rw (shift_is y x p e h) (l, h)

-- a number above 0 is at least so much after the shift
pub shift_least : (o y x p : ℕ) → y ≡ x → 0 < x → (0 < y → o ≤ y * p) → o ≤ x * p
shift_least o y x p e h k = subst (λ z. o ≤ z * p) e (k (rw e h))
