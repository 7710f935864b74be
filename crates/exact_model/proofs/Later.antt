-- Past an index the ratios of neighbouring weights stay below one bound.
use Rattle.std.proofs.Common.{◌≡◌, ℕ, suc, ◌+◌, ◌-◌, ◌*◌, ◌<◌, ◌≤◌, arith, subst, inl, inr, mul-le-mul_left}
use Rattle.exact_model.specs.Fraction.{Fraction, whole, larger, ◌≈◌, ◌≤ℚ◌, ◌+ℚ◌, ◌*ℚ◌, ◌/ℚ◌}
use Rattle.exact_model.specs.Series.{ratio}
use Rattle.exact_model.proofs.Whole.{ratio_bound}
use Rattle.exact_model.proofs.Fractions.{over, same, turned, ◌≈≈◌, le_same, le_self, mul_cancel, quotient, larger_is}
use Rattle.exact_model.proofs.Remainder.{ratio_is}

larger_least : (q r : Fraction) → (q ≤ℚ larger q r) × (r ≤ℚ larger q r)
larger_least q r = elim (larger_is q r) [
  | inl e ↦ (le_same (same q) (turned e.0) (le_self q), le_same (same r) (turned e.0) e.1)
  | inr e ↦ (le_same (same q) (turned e.0) e.1, le_same (same r) (turned e.0) (le_self r))
]

limit_positive : (d : Fraction) → 0 < (whole 1 +ℚ d).num
unfolding whole ◌+ℚ◌
limit_positive d = omega (arith, d.positive)

pub sum_positive : (d : Fraction) → 0 < d.den + d.num
sum_positive d = omega (arith, d.positive)

limit_over : (d : Fraction) → d ≈ over d.num (d.den + d.num) (sum_positive d) *ℚ (whole 1 +ℚ d)
unfolding whole ◌+ℚ◌ ◌*ℚ◌
limit_over d = record { cross = omega arith }

-- what the ratios tend to is d / (1 + d)
pub limit_is : (d : Fraction) → d /ℚ (whole 1 +ℚ d) ≈ over d.num (d.den + d.num) (sum_positive d)
limit_is d = mul_cancel (whole 1 +ℚ d) (limit_positive d) (quotient d (whole 1 +ℚ d) (limit_positive d) ≈≈ limit_over d)

-- a bound on e / (f + e) bounds it also where both parts of it are times b
pub widen : (b e f r o : ℕ) → e * o ≤ r * (f + e) → e * b * o ≤ r * (b * f + e * b)
widen b e f r o h = omega (arith, mul-le-mul_left b h)

below : (u d r : Fraction) (K j : ℕ) → ratio u d K ≤ℚ r → d /ℚ (whole 1 +ℚ d) ≤ℚ r → ratio u d (j + K) ≤ℚ r
below u d r K j h k =
    let a = le_same (ratio_is u d K) (same r) h in
    let b = le_same (limit_is d) (same r) k in
    let c : (u.num * d.den + (j + K) * (d.num * u.den)) * r.den ≤ r.num * (suc (j + K) * (u.den * d.den + d.num * u.den)) =
    ratio_bound (u.num * d.den) (u.den * d.den) (d.num * u.den) r.num r.den K j a.cross (widen u.den d.num d.den r.num r.den b.cross) in
    le_same (turned (ratio_is u d (j + K))) (same r) (record { cross = c })

-- from K on each ratio is at most the larger of the one at K and d / (1 + d)
pub ratios_bounded : (u d : Fraction) (K k : ℕ) → K ≤ k → ratio u d k ≤ℚ larger (ratio u d K) (d /ℚ (whole 1 +ℚ d))
ratios_bounded u d K k l =
    let e : k - K + K ≡ k = omega arith in
    let r = larger_least (ratio u d K) (d /ℚ (whole 1 +ℚ d)) in
    subst (λ z. ratio u d z ≤ℚ larger (ratio u d K) (d /ℚ (whole 1 +ℚ d))) e (below u d (larger (ratio u d K) (d /ℚ (whole 1 +ℚ d))) K (k - K) r.0 r.1)
