-- Backorders depend on the values of the mean and the variance, not on how these are written.
use Rattle.std.proofs.Common.{◌≡◌, ℕ, zero, suc, ◌-◌, ◌*◌, ◌<◌, inl, inr, refl, arith, eq-zero-or-pos}
use Rattle.exact_model.specs.Fraction.{Fraction, whole, ◌≈◌, larger}
use Rattle.exact_model.specs.Series.{excess, weight, weight_sum, chance, unless_zero, ebo, tail, second, vbo}
use Rattle.exact_model.proofs.Fractions.{same, turned, ◌≈≈◌, add_same, sub_same, mul_same, div_same, sum_same, positive_same}
use Rattle.exact_model.proofs.Cleared.{divisor_positive, weight_sum_positive, unless_positive}
use Rattle.exact_model.proofs.Table.{ebo_first}

-- two fractions with nothing above the line are the same
pub zeros_same : {q r : Fraction} → q.num ≡ 0 → r.num ≡ 0 → q ≈ r
zeros_same {q} {r} h k = record { cross = zeros_step q.num r.den r.num q.den h k }
  where
    zeros_step : (a d c b : ℕ) → a ≡ 0 → c ≡ 0 → a * d ≡ c * b
    zeros_step a d c b h k = rw (h, k) (omega arith)

pub none_same : {q r : Fraction} → q ≈ r → q.num ≡ 0 → r.num ≡ 0
none_same {q} {r} h z = elim (eq-zero-or-pos r.num) as (λ _. r.num ≡ 0) [
  | inl e ↦ e
  | inr p ↦ absurd (omega (arith, z, positive_same (turned h) p))
]

pub unless_none : (m : ℕ) (q : Fraction) → m ≡ 0 → (unless_zero m q).num ≡ 0
unfolding unless_zero whole
unless_none zero q h = refl
unless_none (suc m) q h = absurd (omega arith)

excess_same : {u u' v v' : Fraction} → 0 < u.num → u ≈ u' → v ≈ v' → excess u v ≈ excess u' v'
unfolding excess
excess_same p h k = sub_same (div_same p k h) (same (whole 1))

weight_same : {u u' d d' : Fraction} → u ≈ u' → d ≈ d' → (x : ℕ) → weight u d x ≈ weight u' d' x
unfolding weight
weight_same h k zero = same (whole 1)
weight_same {u} {u'} {d} {d'} h k (suc x) =
    div_same (divisor_positive x d)
    (mul_same (weight_same h k x) (add_same h (mul_same (same (whole x)) k)))
    (mul_same (same (whole (suc x))) (add_same (same (whole 1)) k))

chance_same : (n : ℕ) {u u' v v' : Fraction} → 0 < u.num → u ≈ u' → v ≈ v' → (x : ℕ) → chance n u v x ≈ chance n u' v' x
unfolding chance weight_sum
chance_same n {u} {u'} {v} {v'} p h k x =
    let e = excess_same p h k in
    div_same (unfold weight_sum in weight_sum_positive u (excess u v) n) (weight_same h e x)
    (sum_same (weight u (excess u v)) (weight u' (excess u' v')) (suc n) (λ y l. weight_same h e y))

unless_same : {m m' : ℕ} {q q' : Fraction} → 0 < m → 0 < m' → q ≈ q' → unless_zero m q ≈ unless_zero m' q'
unless_same {m} {m'} {q} {q'} p p' h = unless_positive m q p ≈≈ h ≈≈ turned (unless_positive m' q' p')

-- means and variances that are the same values give the same EBO
pub ebo_same : (n : ℕ) {u u' v v' : Fraction} (s : ℕ) → u ≈ u' → v ≈ v' → ebo n u v s ≈ ebo n u' v' s
unfolding ebo
ebo_same n {u} {u'} {v} {v'} s h k = elim (eq-zero-or-pos u.num) [
  | inl z ↦ zeros_same (unless_none u.num _ z) (unless_none u'.num _ (none_same h z))
  | inr p ↦ unless_same p (positive_same h p)
      (sub_same (add_same h (sum_same _ _ s (λ x l. mul_same (same (whole (s - x))) (chance_same n p h k x)))) (same (whole s)))
]

-- means and variances that are the same values give the same tail
pub tail_same : (n : ℕ) {u u' v v' : Fraction} (s : ℕ) → u ≈ u' → v ≈ v' → tail n u v s ≈ tail n u' v' s
unfolding tail
tail_same n {u} {u'} {v} {v'} s h k = elim (eq-zero-or-pos u.num) [
  | inl z ↦ zeros_same (unless_none u.num _ z) (unless_none u'.num _ (none_same h z))
  | inr p ↦ unless_same p (positive_same h p)
      (sub_same (same (whole 1)) (sum_same _ _ (suc s) (λ x l. chance_same n p h k x)))
]

pub larger_same : {q q' r r' : Fraction} → q ≈ q' → r ≈ r' → larger q r ≈ larger q' r'
unfolding larger
larger_same h k = add_same k (sub_same h k)

second_same : (n : ℕ) {u u' v v' : Fraction} (s : ℕ) → 0 < u.num → u ≈ u' → v ≈ v' → second n u v s ≈ second n u' v' s
unfolding second
second_same n s p h k =
    sub_same (sub_same (add_same (add_same (larger_same k h) (mul_same h h)) (same (whole (s * s)))) (mul_same (same (whole (2 * s))) h))
    (sum_same _ _ s (λ x l. mul_same (same (whole ((s - x) * (s - x)))) (chance_same n p h k x)))

-- means and variances that are the same values give the same VBO
pub vbo_same : (n : ℕ) {u u' v v' : Fraction} (s : ℕ) → u ≈ u' → v ≈ v' → vbo n u v s ≈ vbo n u' v' s
unfolding vbo
vbo_same n {u} {u'} {v} {v'} s h k = elim (eq-zero-or-pos u.num) [
  | inl z ↦ zeros_same (unless_none u.num _ z) (unless_none u'.num _ (none_same h z))
  | inr p ↦ unless_same p (positive_same h p)
      (sub_same (second_same n s p h k) (mul_same (ebo_same n s h k) (ebo_same n s h k)))
]

none_first : (m : ℕ) (u q : Fraction) → u.num ≡ 0 → m ≡ 0 → unless_zero m q ≈ u
none_first m u q z h = zeros_same (unless_none m q h) z

-- with no stock all of the mean is backordered
pub ebo_none : (n : ℕ) (u v : Fraction) → ebo n u v 0 ≈ u
unfolding ebo
ebo_none n u v = elim (eq-zero-or-pos u.num) [
  | inl z ↦ none_first u.num u _ z z
  | inr p ↦ unfold ebo in turned (ebo_first n u v p)
]
