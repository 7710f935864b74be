-- The order of fractions.
use Rattle.std.proofs.Common.{◌≡◌, ℕ, zero, suc, ◌+◌, ◌-◌, ◌*◌, ◌<◌, ◌≤◌, inl, inr, refl, ap, ◌∙◌, arith, mul-le-mul_left, le_of_mul-le-mul_right, zero-lt-suc, eq-zero-or-pos}
use Rattle.std.proofs.Math.Nat.{mul-pos, mul-le-mul}
use Rattle.exact_model.specs.Fraction.{Fraction, whole, ◌≈◌, ◌≤ℚ◌, ◌+ℚ◌, ◌-ℚ◌, ◌*ℚ◌, ◌/ℚ◌, scaled}
use Rattle.exact_model.proofs.Public.{same, turned, ◌≈≈◌, mul_same, quotient, times_assoc, le_same, le_self, one_times, zeros_same}

-- of two ways to write one value each is at most the other
pub le_of_same : {q r : Fraction} → q ≈ r → q ≤ℚ r
le_of_same {q} {r} h = le_same (same q) h (le_self q)

le_add_step : (a b c d a' b' c' d' : ℕ) → a * b' ≤ a' * b → c * d' ≤ c' * d → (a * d + c * b) * (b' * d') ≤ (a' * d' + c' * b') * (b * d)
le_add_step a b c d a' b' c' d' h k =
    let i : (d * d') * (a * b') ≤ (d * d') * (a' * b) = mul-le-mul_left (d * d') h in
    let j : (b * b') * (c * d') ≤ (b * b') * (c' * d) = mul-le-mul_left (b * b') k in
    omega arith

-- sums of what is at most something are at most the sums of it
pub le_add : {q q' r r' : Fraction} → q ≤ℚ q' → r ≤ℚ r' → q +ℚ r ≤ℚ q' +ℚ r'
unfolding ◌+ℚ◌
le_add {q} {q'} {r} {r'} h k = record { cross = le_add_step q.num q.den r.num r.den q'.num q'.den r'.num r'.den h.cross k.cross }

le_mul_step : (a b c d a' b' c' d' : ℕ) → a * b' ≤ a' * b → c * d' ≤ c' * d → (a * c) * (b' * d') ≤ (a' * c') * (b * d)
le_mul_step a b c d a' b' c' d' h k = omega (arith, mul-le-mul h k)

-- products of what is at most something are at most the products of it
pub le_mul : {q q' r r' : Fraction} → q ≤ℚ q' → r ≤ℚ r' → q *ℚ r ≤ℚ q' *ℚ r'
unfolding ◌*ℚ◌
le_mul {q} {q'} {r} {r'} h k = record { cross = le_mul_step q.num q.den r.num r.den q'.num q'.den r'.num r'.den h.cross k.cross }

le_cancel_step : (a b c d e f : ℕ) → 0 < e → 0 < f → (a * e) * (d * f) ≤ (c * e) * (b * f) → a * d ≤ c * b
le_cancel_step a b c d e f p r h = le_of_mul-le-mul_right {m = a * d} {n = c * b} {k = e * f} (omega arith) (mul-pos p r)

-- a factor above 0 on both sides may be left out
pub le_cancel : {q r : Fraction} (s : Fraction) → 0 < s.num → q *ℚ s ≤ℚ r *ℚ s → q ≤ℚ r
unfolding ◌*ℚ◌
le_cancel {q} {r} s p h = record { cross = le_cancel_step q.num q.den r.num r.den s.num s.den p s.positive h.cross }

-- a value is at most another with it added
pub le_plus_left : (q r : Fraction) → r ≤ℚ q +ℚ r
unfolding ◌+ℚ◌
le_plus_left q r = record { cross = omega arith }

-- a factor goes into a sum
pub times_plus : (x y z : Fraction) → x *ℚ (y +ℚ z) ≈ x *ℚ y +ℚ x *ℚ z
unfolding ◌+ℚ◌ ◌*ℚ◌
times_plus x y z = record { cross = omega arith }

-- a value times 1 is the value
pub times_one : (x : Fraction) → x *ℚ whole 1 ≈ x
unfolding ◌*ℚ◌ whole
times_one x = record { cross = omega arith }

-- a value times 0 is 0
pub times_nothing : (x : Fraction) → x *ℚ whole 0 ≈ whole 0
unfolding ◌*ℚ◌ whole
times_nothing x = record { cross = omega arith }

nothing : (a d : ℕ) → a ≡ 0 → a * d ≡ 0
nothing a d h = ap (λ z. z * d) h ∙ omega arith

pub zero_le : {q : Fraction} (r : Fraction) → q.num ≡ 0 → q ≤ℚ r
zero_le {q} r h = record { cross = zero_step q.num r.den r.num q.den h }
  where
    zero_step : (a d c b : ℕ) → a ≡ 0 → a * d ≤ c * b
    zero_step a d c b h = omega (arith, nothing a d h)

-- what is at most nothing is nothing
pub none_below : (q r : Fraction) → q ≤ℚ r → r.num ≡ 0 → q.num ≡ 0
none_below q r h z = none_step q.num r.den r.num q.den r.positive h.cross z
  where
    none_step : (a d c b : ℕ) → 0 < d → a * d ≤ c * b → c ≡ 0 → a ≡ 0
    none_step zero d c b p h z = refl
    none_step (suc a) d c b p h z =
        absurd (omega (arith, nothing c b z, mul-pos (zero-lt-suc a) p))

zero_times : (q r : Fraction) → q.num ≡ 0 → (q *ℚ r).num ≡ 0
unfolding ◌*ℚ◌
zero_times q r h = nothing q.num r.num h

times_zero : (q r : Fraction) → r.num ≡ 0 → (q *ℚ r).num ≡ 0
unfolding ◌*ℚ◌
times_zero q r h = ap (λ z. q.num * z) h ∙ omega arith

scaled_zero : (q : Fraction) (top bottom : ℕ) → bottom ≡ 0 → (scaled q top bottom).num ≡ 0
unfolding scaled whole
scaled_zero q top zero h = refl
scaled_zero q top (suc n) h = absurd (omega arith)

-- a quotient by 0 is 0
pub over_zero : (q r : Fraction) → r.num ≡ 0 → (q /ℚ r).num ≡ 0
unfolding ◌/ℚ◌
over_zero q r h = scaled_zero q r.den r.num h

-- the share of x in m, of m t, is x t
pub share_times : (x m t : Fraction) → x ≤ℚ m → (x /ℚ m) *ℚ (m *ℚ t) ≈ x *ℚ t
share_times x m t h = elim (eq-zero-or-pos m.num) [
  | inl z ↦ zeros_same (times_zero (x /ℚ m) (m *ℚ t) (zero_times m t z)) (zero_times x t (none_below x m h z))
  | inr p ↦ turned (times_assoc (x /ℚ m) m t) ≈≈ mul_same (quotient x m p) (same t)
]

-- a share is at most 1
pub share_most : (x m : Fraction) → x ≤ℚ m → x /ℚ m ≤ℚ whole 1
share_most x m h = elim (eq-zero-or-pos m.num) [
  | inl z ↦ zero_le (whole 1) (over_zero x m z)
  | inr p ↦ le_cancel m p (le_same (turned (quotient x m p)) (turned (one_times m)) h)
]

-- (1 - f) + f is 1
pub rest : (f : Fraction) → f ≤ℚ whole 1 → (whole 1 -ℚ f) +ℚ f ≈ whole 1
unfolding ◌+ℚ◌ ◌-ℚ◌ whole
rest f h = record { cross = rest_step f.num f.den h.cross }
  where
    rest_step : (a b : ℕ) → a * 1 ≤ 1 * b → ((1 * b - a * 1) * b + a * (1 * b)) * 1 ≡ 1 * (1 * b * b)
    rest_step a b h =
        let e : 1 * b - a * 1 + a ≡ b = omega arith in
        let k : (1 * b - a * 1 + a) * b ≡ b * b = ap (λ z. z * b) e in
        omega arith

gathered : (f g x : Fraction) → f *ℚ g *ℚ x +ℚ f *ℚ f *ℚ x ≈ (f *ℚ x) *ℚ (g +ℚ f)
unfolding ◌+ℚ◌ ◌*ℚ◌
gathered f g x = record { cross = omega arith }

-- f (1 - f) x + f^2 x is f x
pub shared_same : (f x : Fraction) → f ≤ℚ whole 1 → f *ℚ (whole 1 -ℚ f) *ℚ x +ℚ f *ℚ f *ℚ x ≈ f *ℚ x
shared_same f x h = gathered f (whole 1 -ℚ f) x ≈≈ mul_same (same (f *ℚ x)) (rest f h) ≈≈ times_one (f *ℚ x)
