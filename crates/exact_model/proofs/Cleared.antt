-- The model's weights over one denominator: whole numbers, to which the laws of Whole apply.
use Rattle.std.proofs.Common.{◌≡◌, ℕ, zero, suc, ◌+◌, ◌-◌, ◌*◌, ◌/◌, ◌<◌, ◌≤◌, refl, sym, ap, ◌∙◌, arith, zero-lt-suc, inl, inr, mul-le-mul_left, mul-le-mul_right, le_trans, le_of_eq, eq-zero-or-pos}
use Rattle.std.specs.Int.{◌∣◌}
use Rattle.std.proofs.Math.Nat.{mul-pos, eq_of_mul-eq-mul_right, dvd_refl, dvd-mul_left, dvd-mul_right_of_dvd, mul-div_cancel', le-suc_iff}
use Rattle.list_laws.proofs.Public.{total}
use Rattle.exact_model.specs.Fraction.{Fraction, whole, ◌≈◌, ◌≤ℚ◌, ◌+ℚ◌, ◌*ℚ◌, sum_below}
use Rattle.exact_model.specs.Series.{excess, weight, weight_sum, chance, unless_zero, ebo, tail}
use Rattle.exact_model.proofs.Whole.{InProportion, mean_bound, cover, past, short_sum, total_mono}
use Rattle.exact_model.proofs.Fractions.{over, same, turned, ◌≈≈◌, add_same, sub_same, mul_same, div_same, quotient, add_over, sub_over, div_over, total_over, positive_same, whole_times, widened, le_same}

-- w(0) .. w(n) over one denominator
pub record Cleared (w : ℕ → Fraction) (n : ℕ) : Type 0 where
  pub z : ℕ
  pub z_positive : 0 < z
  pub c : ℕ → ℕ
  pub is : (x : ℕ) → x ≤ n → w x ≈ over (c x) z z_positive

abbrev dens : (ℕ → Fraction) → ℕ → ℕ
dens w zero = (w zero).den
dens w (suc n) = dens w n * (w (suc n)).den

dens_positive : (w : ℕ → Fraction) (n : ℕ) → 0 < dens w n
dens_positive w zero = (w zero).positive
dens_positive w (suc n) = mul-pos (dens_positive w n) (w (suc n)).positive

in_dens : (w : ℕ → Fraction) (n x : ℕ) → x ≤ n → (w x).den ∣ dens w n
in_dens w zero x h = let e : x ≡ 0 = omega arith in rw e (dvd_refl (w 0).den)
in_dens w (suc n) x h = elim (le-suc_iff.0 h) [
  | inl l ↦ dvd-mul_right_of_dvd (w x).den (in_dens w n x l) (w (suc n)).den
  | inr e ↦ rw e (dvd-mul_left (w (suc n)).den (dens w n))
]

clear_step : (a d z k : ℕ) → d * k ≡ z → a * z ≡ a * k * d
clear_step a d z k h = let i : a * (d * k) ≡ a * z = ap (λ y. a * y) h in omega arith

-- the first n + 1 of any fractions stand over one denominator
pub cleared : (w : ℕ → Fraction) (n : ℕ) → Cleared w n
cleared w n = record {
  z = dens w n;
  z_positive = dens_positive w n;
  c = λ x. (w x).num * (dens w n / (w x).den);
  is = λ x l. record { cross = clear_step (w x).num (w x).den (dens w n) (dens w n / (w x).den) (mul-div_cancel' (w x).den (in_dens w n x l)) };
}

-- the divisor in a weight's recursion is above 0
pub divisor_positive : (x : ℕ) (d : Fraction) → 0 < (whole (suc x) *ℚ (whole 1 +ℚ d)).num
unfolding whole ◌*ℚ◌ ◌+ℚ◌
divisor_positive x d = mul-pos (zero-lt-suc x) (omega (arith, d.positive))

-- the recursion of the weights, with no quotient
pub weight_step : (u d : Fraction) (x : ℕ)
    → weight u d (suc x) *ℚ (whole (suc x) *ℚ (whole 1 +ℚ d)) ≈ weight u d x *ℚ (u +ℚ whole x *ℚ d)
unfolding weight
weight_step u d x = quotient (weight u d x *ℚ (u +ℚ whole x *ℚ d)) (whole (suc x) *ℚ (whole 1 +ℚ d)) (divisor_positive x d)

proportion_step : (a b e f c0 c1 x z : ℕ) → 0 < z → 0 < f
    → (c1 * (suc x * (1 * f + e * 1))) * (z * (b * (1 * f))) ≡ (c0 * (a * (1 * f) + (x * e) * b)) * (z * (1 * (1 * f)))
    → c1 * (suc x * (b * f + e * b)) ≡ c0 * (a * f + x * (e * b))
proportion_step a b e f c0 c1 x z pz pf h =
    eq_of_mul-eq-mul_right (z * f) (mul-pos pz pf) (c1 * (suc x * (b * f + e * b))) (c0 * (a * f + x * (e * b))) (omega arith)

proportion_cross : (u d : Fraction) (c0 c1 x z : ℕ) (p : 0 < z)
    → over c1 z p *ℚ (whole (suc x) *ℚ (whole 1 +ℚ d)) ≈ over c0 z p *ℚ (u +ℚ whole x *ℚ d)
    → c1 * (suc x * (u.den * d.den + d.num * u.den)) ≡ c0 * (u.num * d.den + x * (d.num * u.den))
unfolding whole ◌*ℚ◌ ◌+ℚ◌
proportion_cross u d c0 c1 x z p h = proportion_step u.num u.den d.num d.den c0 c1 x z p d.positive (omega (arith, h.cross))

-- weights over one denominator stand in the proportions of the mean and the excess
pub proportion : (u d : Fraction) (n : ℕ) (k : Cleared (weight u d) n)
    → InProportion (u.num * d.den) (u.den * d.den) (d.num * u.den) k.c n
proportion u d n k x l = proportion_cross u d (k.c x) (k.c (suc x)) x k.z k.z_positive
    (mul_same (turned (k.is (suc x) l)) (same (whole (suc x) *ℚ (whole 1 +ℚ d)))
    ≈≈ weight_step u d x
    ≈≈ mul_same (k.is x (omega arith)) (same (u +ℚ whole x *ℚ d)))

-- ---- the model's values over whole weights

first_positive : (u d : Fraction) (n : ℕ) (k : Cleared (weight u d) n) → 0 < k.c 0
unfolding weight whole
first_positive u d n k =
    let e : 1 * k.z ≡ k.c 0 * 1 = (k.is 0 (omega arith)).cross in
    omega (arith, k.z_positive)

total_positive : (c : ℕ → ℕ) (n : ℕ) → 0 < c 0 → 0 < total c (suc n)
total_positive c zero h = omega arith
total_positive c (suc n) h = omega (arith, total_positive c n h)

pub sum_positive : (u d : Fraction) (n : ℕ) (k : Cleared (weight u d) n) → 0 < total k.c (suc n)
sum_positive u d n k = total_positive k.c n (first_positive u d n k)

-- the sum of the weights is the sum of the whole ones over their denominator
pub weight_sum_is : (u d : Fraction) (n : ℕ) (k : Cleared (weight u d) n) → weight_sum u d n ≈ over (total k.c (suc n)) k.z k.z_positive
unfolding weight_sum
weight_sum_is u d n k = total_over (weight u d) k.c k.z k.z_positive (suc n) (λ x l. k.is x (omega arith))

-- the sum of the weights is above 0
pub weight_sum_positive : (u d : Fraction) (n : ℕ) → 0 < (weight_sum u d n).num
weight_sum_positive u d n = let k = cleared (weight u d) n in positive_same (turned (weight_sum_is u d n k)) (sum_positive u d n k)

pub vanish : (s x y : ℕ) → s ≤ x → (s - x) * y ≡ 0
vanish s x y h = let e : s - x ≡ 0 = omega arith in rw e (omega arith)

short_step_sum : (s : ℕ) (c : ℕ → ℕ) → total (λ x. (suc s - x) * c x) (suc s) ≡ total (λ x. (s - x) * c x) s + total c (suc s)
short_step_sum s c = short_sum s c (suc s) (omega arith) ∙ ap (λ z. total (λ x. (s - x) * c x) s + z + total c (suc s)) (vanish s s (c s) (omega arith)) ∙ omega arith

-- the whole weights up to s come to at most those up to n
pub below_all : (c : ℕ → ℕ) (s n : ℕ) → s ≤ n → total c (suc s) ≤ total c (suc n)
below_all c s n l =
    let e : n - s + suc s ≡ suc n = omega arith in
    le_trans (total_mono c (suc s) (n - s)) (le_of_eq (ap (total c) e))

-- a value that is 0 for an empty pipeline is as it stands where the mean is above 0
pub unless_positive : (m : ℕ) (q : Fraction) → 0 < m → unless_zero m q ≈ q
unfolding unless_zero
unless_positive zero q h = absurd (omega arith)
unless_positive (suc m) q h = same q

module _ (n : ℕ) (u v : Fraction) (k : Cleared (weight u (excess u v)) n) where
  abbrev pub d : Fraction
  d = excess u v

  -- the numerator of the mean times the denominator of the excess
  abbrev pub a : ℕ
  a = u.num * d.den

  -- the denominator of the mean times that of the excess
  abbrev pub b : ℕ
  b = u.den * d.den

  -- the sum of the whole weights up to n
  abbrev pub all : ℕ
  all = total k.c (suc n)

  -- that sum is above 0
  pub all_positive : 0 < all
  all_positive = sum_positive u d n k

  -- a probability is its whole weight over the sum of all
  pub chance_is : (x : ℕ) → x ≤ n → chance n u v x ≈ over (k.c x) all all_positive
  unfolding chance
  chance_is x l =
      div_same (weight_sum_positive u d n) (k.is x l) (weight_sum_is u d n k)
      ≈≈ div_over (k.c x) all k.z k.z_positive all_positive

  -- the denominator of what follows is above 0
  pub b_all_positive : 0 < b * all
  b_all_positive = mul-pos (mul-pos u.positive d.positive) all_positive

  -- the sum of (s - x) c(x) over x < s
  abbrev pub short : ℕ → ℕ
  short s = total (λ x. (s - x) * k.c x) s

  -- the mean over this denominator
  pub mean_is : u ≈ over (a * all) (b * all) b_all_positive
  mean_is = record { cross = omega arith }

  -- u + sum over x < s of (s - x) p(x)
  pub reach_is : (s : ℕ) → s ≤ suc n
      → u +ℚ sum_below (λ x. whole (s - x) *ℚ chance n u v x) s ≈ over (a * all + b * short s) (b * all) b_all_positive
  reach_is s l =
      add_same mean_is
      (total_over (λ x. whole (s - x) *ℚ chance n u v x) (λ x. (s - x) * k.c x) all all_positive s
      (λ x h. mul_same (same (whole (s - x))) (chance_is x (omega arith)) ≈≈ whole_times (s - x) (k.c x) all all_positive)
      ≈≈ widened b (short s) all all_positive b_all_positive)
      ≈≈ add_over (a * all) (b * short s) (b * all) b_all_positive

  pub whole_is : (s : ℕ) → whole s ≈ over (s * (b * all)) (b * all) b_all_positive
  unfolding whole
  whole_is s = record { cross = omega arith }

  -- the expected backorders over this denominator, where the mean is above 0
  pub ebo_is : 0 < u.num → (s : ℕ) → s ≤ suc n
      → ebo n u v s ≈ over (a * all + b * short s - s * (b * all)) (b * all) b_all_positive
  unfolding ebo
  ebo_is up s l =
      unless_positive u.num _ up
      ≈≈ sub_same (reach_is s l) (whole_is s)
      ≈≈ sub_over (a * all + b * short s) (s * (b * all)) (b * all) b_all_positive

  -- the probability of backorders over this denominator, where the mean is above 0
  pub tail_is : 0 < u.num → (s : ℕ) → s ≤ n → tail n u v s ≈ over (b * all - b * total k.c (suc s)) (b * all) b_all_positive
  unfolding tail
  tail_is up s l =
      unless_positive u.num _ up
      ≈≈ sub_same (whole_is 1 ≈≈ record { cross = omega arith })
      (total_over (chance n u v) k.c all all_positive (suc s) (λ x h. chance_is x (omega arith))
      ≈≈ widened b (total k.c (suc s)) all all_positive b_all_positive)
      ≈≈ sub_over (b * all) (b * total k.c (suc s)) (b * all) b_all_positive

  -- the mean with what is short of s is at least s, over whole numbers
  pub reach_bound : (s : ℕ) → s ≤ suc n → s * (b * all) ≤ a * all + b * short s
  reach_bound s l =
      let m : b * total (λ x. x * k.c x) (suc n) ≤ a * all = mean_bound a b (d.num * u.den) k.c n (proportion u d n k) in
      let f : s * all ≤ total (λ x. (s - x) * k.c x) (suc n) + total (λ x. x * k.c x) (suc n) = cover s k.c (suc n) in
      let g : total (λ x. (s - x) * k.c x) (suc n - s + s) ≡ short s = past (λ x. (s - x) * k.c x) s (suc n - s) (λ x h. vanish s x (k.c x) h) in
      let e : suc n - s + s ≡ suc n = omega arith in
      let g' : total (λ x. (s - x) * k.c x) (suc n) ≡ short s = ap (total (λ x. (s - x) * k.c x)) (sym e) ∙ g in
      omega (arith, mul-le-mul_left b f, ap (λ z. b * z) g')

-- u + sum of (s - x) p(x) is at least s, so the cut in the backorders loses nothing
pub covered : (n : ℕ) (u v : Fraction) (s : ℕ) → s ≤ suc n → whole s ≤ℚ u +ℚ sum_below (λ x. whole (s - x) *ℚ chance n u v x) s
covered n u v s l =
    let k = cleared (weight u (excess u v)) n in
    le_same (turned (whole_is n u v k s)) (turned (reach_is n u v k s l))
    (record { cross = mul-le-mul_right (b n u v k * all n u v k) (reach_bound n u v k s l) })

law2_step : (x y s w p t D : ℕ) → t ≡ y + p → p ≤ w → D ≡ w → s * w ≤ x + y → suc s * w ≤ x + t
    → x + y - s * w ≡ (x + t - suc s * w) + (w - p)
law2_step x y s w p t D h i e j k = omega arith

-- backorders fall by the tail from a stock to the next, over whole weights
pub falls_whole : (n : ℕ) (u v : Fraction) (k : Cleared (weight u (excess u v)) n) (s : ℕ) → s ≤ n
    → a n u v k * all n u v k + b n u v k * short n u v k s - s * (b n u v k * all n u v k)
    ≡ (a n u v k * all n u v k + b n u v k * short n u v k (suc s) - suc s * (b n u v k * all n u v k))
    + (b n u v k * all n u v k - b n u v k * total k.c (suc s))
falls_whole n u v k s l =
    let B = b n u v k in
    let t : short n u v k (suc s) ≡ short n u v k s + total k.c (suc s) = short_step_sum s k.c in
    let i : total k.c (suc s) ≤ all n u v k = below_all k.c s n l in
    law2_step (a n u v k * all n u v k) (B * short n u v k s) s (B * all n u v k) (B * total k.c (suc s)) (B * short n u v k (suc s)) (B * all n u v k)
    (ap (λ z. B * z) t ∙ omega arith) (mul-le-mul_left B i) refl
    (reach_bound n u v k s (omega arith)) (reach_bound n u v k (suc s) (omega arith))

falls_positive : (n : ℕ) (u v : Fraction) → 0 < u.num → (s : ℕ) → s ≤ n → ebo n u v s ≈ ebo n u v (suc s) +ℚ tail n u v s
falls_positive n u v up s l =
    let k = cleared (weight u (excess u v)) n in
    ebo_is n u v k up s (omega arith)
    ≈≈ record { cross = ap (λ z. z * (b n u v k * all n u v k)) (falls_whole n u v k s l) }
    ≈≈ turned (add_over _ _ (b n u v k * all n u v k) (b_all_positive n u v k))
    ≈≈ add_same (turned (ebo_is n u v k up (suc s) (omega arith))) (turned (tail_is n u v k up s l))

pub falls_zero : (m : ℕ) (q r t : Fraction) → m ≡ 0 → unless_zero m q ≈ unless_zero m r +ℚ unless_zero m t
unfolding unless_zero whole ◌+ℚ◌
falls_zero m q r t e = rw e (record { cross = refl })

-- EBO(s) - EBO(s + 1) = G(s)
pub falls : (n : ℕ) (u v : Fraction) (s : ℕ) → s ≤ n → ebo n u v s ≈ ebo n u v (suc s) +ℚ tail n u v s
unfolding ebo tail
falls n u v s l = elim (eq-zero-or-pos u.num) [
  | inl e ↦ falls_zero u.num _ _ _ e
  | inr p ↦ falls_positive n u v p s l
]
