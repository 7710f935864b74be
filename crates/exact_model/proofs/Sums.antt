-- The mean of the cut series, what the terms past an index come to, and the cuts that lose nothing.
use Rattle.std.proofs.Common.{◌≡◌, ℕ, zero, suc, ◌+◌, ◌-◌, ◌*◌, ◌<◌, ◌≤◌, refl, ap, ◌∙◌, arith, subst, inl, inr, mul-le-mul_left, mul-le-mul_right, eq-zero-or-pos}
use Rattle.std.proofs.Math.Nat.{mul-pos, le_of_mul-le-mul_left}
use Rattle.list_laws.proofs.Public.{total}
use Rattle.exact_model.specs.Fraction.{Fraction, whole, ◌≈◌, ◌≤ℚ◌, ◌+ℚ◌, ◌-ℚ◌, ◌*ℚ◌, ◌/ℚ◌, sum_below, larger}
use Rattle.exact_model.specs.Series.{excess, weight, weight_sum, chance, ratio, unless_zero, ebo, second, vbo, raised, lowered}
use Rattle.exact_model.proofs.Whole.{mean_bound, falls_by, geometric}
use Rattle.exact_model.proofs.Fractions.{over, same, turned, ◌≈≈◌, add_same, sub_same, mul_same, div_same, quotient, mul_cancel, add_over, total_over, whole_times, widened, le_same, cuts_join}
use Rattle.exact_model.proofs.Cleared.{Cleared, cleared, proportion, weight_sum_is, chance_is, all, all_positive, below_all}
use Rattle.exact_model.proofs.Remainder.{ratio_is}
use Rattle.exact_model.proofs.Later.{limit_is, widen}
use Rattle.exact_model.proofs.Table.{ebo_most, vbo_most}

-- ---- the mean of the cut series

mean_cross : (a b f t m z : ℕ) → (b * f) * m ≤ (a * f) * t → 0 < f → m * (b * z) ≤ (a * t) * z
mean_cross a b f t m z h p =
    let k : f * (b * m) ≤ f * (a * t) = omega (arith, h) in
    let l : b * m ≤ a * t = le_of_mul-le-mul_left {m = b * m} {n = a * t} {k = f} k p in
    omega (arith, mul-le-mul_left z l)

product_over : (u : Fraction) (t z : ℕ) (p : 0 < z) (r : 0 < u.den * z) → u *ℚ over t z p ≈ over (u.num * t) (u.den * z) r
unfolding ◌*ℚ◌
product_over u t z p r = record { cross = refl }

-- the sum of k w(k) up to the depth is at most u W_n: the cut series' mean is at most the pipeline's
pub mean_most : (u d : Fraction) (n : ℕ) → sum_below (λ k. whole k *ℚ weight u d k) (suc n) ≤ℚ u *ℚ weight_sum u d n
mean_most u d n =
    let k = cleared (weight u d) n in
    let r : 0 < u.den * k.z = mul-pos u.positive k.z_positive in
    le_same
    (turned (total_over (λ x. whole x *ℚ weight u d x) (λ x. x * k.c x) k.z k.z_positive (suc n)
    (λ x l. mul_same (same (whole x)) (k.is x (omega arith)) ≈≈ whole_times x (k.c x) k.z k.z_positive)))
    (turned (mul_same (same u) (weight_sum_is u d n k) ≈≈ product_over u (total k.c (suc n)) k.z k.z_positive r))
    (record {
      cross = mean_cross u.num u.den d.den (total k.c (suc n)) (total (λ x. x * k.c x) (suc n)) k.z
          (mean_bound (u.num * d.den) (u.den * d.den) (d.num * u.den) k.c n (proportion u d n k)) d.positive;
    })

-- ---- what the terms past K come to

-- 1 less r is g over r's denominator, where g is what r lacks of 1
rest_is : (r : Fraction) (g : ℕ) → r.num + g ≡ r.den → whole 1 -ℚ r ≈ over g r.den r.positive
unfolding ◌-ℚ◌ whole
rest_is r g e = record { cross = rest_step r.num r.den g e }
  where
    rest_step : (a b g : ℕ) → a + g ≡ b → (1 * b - a * 1) * b ≡ g * (1 * b)
    rest_step a b g e =
        let d : 1 * b - a * 1 ≡ g = omega arith in
        ap (λ z. z * b) d ∙ omega arith

rest_positive : (r : Fraction) (g : ℕ) → r.num + g ≡ r.den → 0 < g → 0 < (whole 1 -ℚ r).num
unfolding ◌-ℚ◌ whole
rest_positive r g e p = omega (arith, e, p)

product_rest : (c z : ℕ) (p : 0 < z) (r : Fraction) (g : ℕ) (q : 0 < g * z)
    → over c z p *ℚ r ≈ over (c * r.num) (g * z) q *ℚ over g r.den r.positive
unfolding ◌*ℚ◌
product_rest c z p r g q = record { cross = omega arith }

-- w(K) r / (1 - r) over one denominator
share_is : (c z : ℕ) (p : 0 < z) (r : Fraction) (g : ℕ) → r.num + g ≡ r.den → 0 < g → (q : 0 < g * z)
    → over c z p *ℚ r /ℚ (whole 1 -ℚ r) ≈ over (c * r.num) (g * z) q
share_is c z p r g e h q =
    mul_cancel (whole 1 -ℚ r) (rest_positive r g e h)
    (quotient (over c z p *ℚ r) (whole 1 -ℚ r) (rest_positive r g e h)
    ≈≈ product_rest c z p r g q
    ≈≈ mul_same (same (over (c * r.num) (g * z) q)) (turned (rest_is r g e)))

below_depth : (u d : Fraction) (n K : ℕ) (k : Cleared (weight u d) n) → K ≤ n
    → weight_sum u d K ≈ over (total k.c (suc K)) k.z k.z_positive
unfolding weight_sum
below_depth u d n K k l = total_over (weight u d) k.c k.z k.z_positive (suc K) (λ x h. k.is x (omega arith))

last_step : (g t tk r ck cn gz : ℕ) → t * g + r * cn ≤ tk * g + r * ck → (g * t) * gz ≤ (g * tk + ck * r) * gz
last_step g t tk r ck cn gz h = mul-le-mul_right gz (omega (arith, h))

remainder_at : (u d r : Fraction) (K j g : ℕ) → r.num + g ≡ r.den → 0 < g → ratio u d K ≤ℚ r → d /ℚ (whole 1 +ℚ d) ≤ℚ r
    → weight_sum u d (j + K) ≤ℚ weight_sum u d K +ℚ weight u d K *ℚ r /ℚ (whole 1 -ℚ r)
remainder_at u d r K j g e p h m =
    let k : Cleared (weight u d) (j + K) = cleared (weight u d) (j + K) in
    let q : 0 < g * k.z = mul-pos p k.z_positive in
    let a = le_same (ratio_is u d K) (same r) h in
    let b = le_same (limit_is d) (same r) m in
    let geo = geometric r.num g r.den K k.c e j (λ i l.
    falls_by (u.num * d.den) (u.den * d.den) (d.num * u.den) r.num r.den K i (k.c (i + K)) (k.c (suc (i + K)))
    (mul-pos u.positive d.positive) a.cross (widen u.den d.num d.den r.num r.den b.cross)
    (proportion u d (j + K) k (i + K) (omega arith))) in
    le_same
    (turned (below_depth u d (j + K) (j + K) k (omega arith) ≈≈ widened g (total k.c (suc (j + K))) k.z k.z_positive q))
    (turned (add_same
    (below_depth u d (j + K) K k (omega arith) ≈≈ widened g (total k.c (suc K)) k.z k.z_positive q)
    (div_same (rest_positive r g e p) (mul_same (k.is K (omega arith)) (same r)) (same (whole 1 -ℚ r)) ≈≈ share_is (k.c K) k.z k.z_positive r g e p q)
    ≈≈ add_over (g * total k.c (suc K)) (k.c K * r.num) (g * k.z) q))
    (record { cross = last_step g (total k.c (suc (j + K))) (total k.c (suc K)) r.num (k.c K) (k.c (j + K)) (g * k.z) geo })

-- the weights past K come to at most w(K) r / (1 - r), where r bounds the ratio at K and d / (1 + d)
pub remainder_most : (u d r : Fraction) (K n : ℕ) → K ≤ n → r.num < r.den → ratio u d K ≤ℚ r → d /ℚ (whole 1 +ℚ d) ≤ℚ r
    → weight_sum u d n ≤ℚ weight_sum u d K +ℚ weight u d K *ℚ r /ℚ (whole 1 -ℚ r)
remainder_most u d r K n l lt h m =
    let e : n - K + K ≡ n = omega arith in
    subst (λ z. weight_sum u d z ≤ℚ weight_sum u d K +ℚ weight u d K *ℚ r /ℚ (whole 1 -ℚ r)) e
    (remainder_at u d r K (n - K) (r.den - r.num) (omega (arith, lt)) (omega (arith, lt)) h m)

-- ---- chances

-- the chances of 0 to n units come to 1
pub chances_are_one : (n : ℕ) (u v : Fraction) → sum_below (chance n u v) (suc n) ≈ whole 1
unfolding whole
chances_are_one n u v =
    let k = cleared (weight u (excess u v)) n in
    total_over (chance n u v) k.c (all n u v k) (all_positive n u v k) (suc n) (λ x h. chance_is n u v k x (omega arith))
    ≈≈ record { cross = omega arith }

-- the chances of 0 to s units come to at most 1
pub chances_within_one : (n : ℕ) (u v : Fraction) (s : ℕ) → s ≤ n → sum_below (chance n u v) (suc s) ≤ℚ whole 1
unfolding whole
chances_within_one n u v s l =
    let k = cleared (weight u (excess u v)) n in
    le_same
    (turned (total_over (chance n u v) k.c (all n u v k) (all_positive n u v k) (suc s) (λ x h. chance_is n u v k x (omega arith))))
    (same (whole 1))
    (record { cross = omega (arith, below_all k.c s n l) })

-- ---- a mean of 0 as well

zero_most : (m : ℕ) (q r : Fraction) → m ≡ 0 → unless_zero m q ≤ℚ r
unfolding unless_zero whole
zero_most m q r e = rw e (record { cross = omega arith })

-- backorders are at most the mean, for every mean
pub ebo_within : (n : ℕ) (u v : Fraction) (s : ℕ) → s ≤ suc n → ebo n u v s ≤ℚ u
unfolding ebo
ebo_within n u v s l = elim (eq-zero-or-pos u.num) [
  | inl e ↦ zero_most u.num _ u e
  | inr p ↦ (unfold ebo in ebo_most n u v s p l)
]

-- the variance of backorders is at most the larger of mean and variance, for every mean
pub vbo_within : (n : ℕ) (u v : Fraction) (s : ℕ) → s ≤ suc n → vbo n u v s ≤ℚ larger v u
unfolding vbo
vbo_within n u v s l = elim (eq-zero-or-pos u.num) [
  | inl e ↦ zero_most u.num _ (larger v u) e
  | inr p ↦ (unfold vbo in vbo_most n u v s p l)
]

unless_cut : (m : ℕ) {q r : Fraction} → q ≈ r → unless_zero m q ≈ unless_zero m r
unfolding unless_zero
unless_cut zero h = same (whole 0)
unless_cut (suc m) h = h

-- the three cuts of the variance are one
pub vbo_cut_once : (n : ℕ) (u v : Fraction) (s : ℕ) → vbo n u v s ≈ unless_zero u.num (raised u v s -ℚ lowered n u v s)
unfolding vbo second
vbo_cut_once n u v s =
    unless_cut u.num (sub_same (cuts_join _ _ _) (same (ebo n u v s *ℚ ebo n u v s)) ≈≈ cuts_join _ _ _)
