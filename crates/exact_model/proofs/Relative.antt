-- A weight relative to the pivot's, from the one before it and from the one after it.
use Rattle.std.proofs.Common.{ℕ, zero, suc, ◌+◌, ◌*◌, ◌<◌, ◌≤◌, ◌^◌, arith, mul-le-mul_left, mul-le-mul_right, le_of_mul-le-mul_right}
use Rattle.std.proofs.Math.Nat.{mul-pos}
use Rattle.exact_model.specs.Fraction.{Fraction, whole, ◌≈◌, ◌+ℚ◌, ◌*ℚ◌, ◌/ℚ◌}
use Rattle.exact_model.specs.Series.{weight, ratio, back, relative}
use Rattle.exact_model.proofs.Fractions.{same, turned, ◌≈≈◌, mul_same, div_same, quotient, mul_cancel, times_assoc, over_times, times_over, one_times}
use Rattle.exact_model.proofs.Cleared.{weight_step, divisor_positive}
use Rattle.exact_model.proofs.Remainder.{weight_positive}

-- a weight times the ratio after it is the next one
pub weight_ratio : (u d : Fraction) (k : ℕ) → weight u d (suc k) ≈ weight u d k *ℚ ratio u d k
unfolding weight ratio
weight_ratio u d k = times_over (weight u d k) (u +ℚ whole k *ℚ d) (whole (suc k) *ℚ (whole 1 +ℚ d)) (divisor_positive k d)

pub mean_positive : (u d : Fraction) (k : ℕ) → 0 < u.num → 0 < (u +ℚ whole k *ℚ d).num
unfolding whole ◌+ℚ◌ ◌*ℚ◌
mean_positive u d k p = omega (arith, mul-pos p d.positive)

weight_back : (u d : Fraction) (k : ℕ) → 0 < u.num → weight u d k ≈ weight u d (suc k) *ℚ back u d k
unfolding back
weight_back u d k p =
    let s : 0 < (u +ℚ whole k *ℚ d).num = mean_positive u d k p in
    mul_cancel (u +ℚ whole k *ℚ d) s
    (turned (times_assoc (weight u d (suc k)) ((whole (suc k) *ℚ (whole 1 +ℚ d)) /ℚ (u +ℚ whole k *ℚ d)) (u +ℚ whole k *ℚ d)
    ≈≈ mul_same (same (weight u d (suc k))) (quotient (whole (suc k) *ℚ (whole 1 +ℚ d)) (u +ℚ whole k *ℚ d) s)
    ≈≈ weight_step u d k))

-- a weight in units of the pivot's, times the ratio after it, is the next one
pub relative_up : (u d : Fraction) (c k : ℕ) → 0 < u.num → relative u d c k *ℚ ratio u d k ≈ relative u d c (suc k)
unfolding relative
relative_up u d c k p =
    let s : 0 < (weight u d c).num = weight_positive u d p c in
    turned (div_same (weight_positive u d p c) (weight_ratio u d k) (same (weight u d c)) ≈≈ over_times (weight u d k) (ratio u d k) (weight u d c) s)

-- a weight in units of the pivot's, times the ratio downwards, is the one before it
pub relative_down : (u d : Fraction) (c k : ℕ) → 0 < u.num → relative u d c (suc k) *ℚ back u d k ≈ relative u d c k
unfolding relative
relative_down u d c k p =
    let s : 0 < (weight u d c).num = weight_positive u d p c in
    turned (div_same (weight_positive u d p c) (weight_back u d k p) (same (weight u d c)) ≈≈ over_times (weight u d (suc k)) (back u d k) (weight u d c) s)

-- the pivot's weight in units of itself is 1
pub relative_self : (u d : Fraction) (c : ℕ) → 0 < u.num → whole 1 ≈ relative u d c c
unfolding relative
relative_self u d c p =
    let s : 0 < (weight u d c).num = weight_positive u d p c in
    mul_cancel (weight u d c) s (one_times (weight u d c) ≈≈ turned (quotient (weight u d c) (weight u d c) s))

-- a fraction of an interval above 0 is above 0
positive_step : (bits lo a b : ℕ) → 0 < lo → 0 < b → lo * b ≤ a * 2 ^ bits → 0 < a
positive_step bits lo zero b p q h = omega (arith, mul-pos p q)
positive_step bits lo (suc a) b p q h = omega arith

-- a fraction whose lower end is above 0 is above 0
pub positive_in : (bits lo : ℕ) (q : Fraction) → 0 < lo → lo * q.den ≤ q.num * 2 ^ bits → 0 < q.num
positive_in bits lo q p h = positive_step bits lo q.num q.den p q.positive h

-- d / (1 + d) is at most t / 2^bits, where t is at least hi 2^bits / (2^bits + hi)
limit_step : (o hi t a b : ℕ) → 0 < o → a * o ≤ hi * b → hi * o ≤ t * (o + hi) → a * o ≤ t * (b + a)
limit_step o hi t a b p h k =
    let i : (hi * o) * (b + a) ≤ (t * (o + hi)) * (b + a) = mul-le-mul_right (b + a) k in
    let j : o * (a * o) ≤ o * (hi * b) = mul-le-mul_left o h in
    le_of_mul-le-mul_right {m = a * o} {n = t * (b + a)} {k = o + hi} (omega arith) (omega arith)

-- the upper end of an excess gives one of what the ratios tend to
pub limit_in : (bits hi t : ℕ) (d : Fraction) → 0 < 2 ^ bits → d.num * 2 ^ bits ≤ hi * d.den → hi * 2 ^ bits ≤ t * (2 ^ bits + hi) → d.num * 2 ^ bits ≤ t * (d.den + d.num)
limit_in bits hi t d p h k = limit_step (2 ^ bits) hi t d.num d.den p h k
