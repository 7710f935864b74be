-- The step of the variance of backorders from a stock to the next one.
use Rattle.std.proofs.Common.{◌≡◌, ℕ, suc, ◌+◌, ◌-◌, ◌*◌, ◌<◌, ◌≤◌, ap, ◌∙◌, arith, inl, inr, mul-le-mul_left, eq-zero-or-pos}
use Rattle.std.proofs.Math.Nat.{mul-pos}
use Rattle.list_laws.proofs.Public.{total}
use Rattle.exact_model.specs.Fraction.{Fraction, whole, ◌≈◌, ◌+ℚ◌, ◌-ℚ◌, ◌*ℚ◌, larger}
use Rattle.exact_model.specs.Series.{excess, weight, chance, unless_zero, ebo, tail, second, vbo, raised, lowered}
use Rattle.exact_model.proofs.Whole.{square_sum, spread_balance, spread_whole}
use Rattle.exact_model.proofs.Fractions.{over, same, turned, ◌≈≈◌, add_same, sub_same, mul_same, add_over, sub_over, total_over, whole_times, widened, lifted, product_lifted, whole_over, fraction_lifted}
use Rattle.exact_model.proofs.Cleared.{Cleared, cleared, a, b, all, all_positive, b_all_positive, short, mean_is, chance_is, ebo_is, tail_is, unless_positive, falls_whole, below_all, reach_bound}

square_step_sum : (s : ℕ) (c : ℕ → ℕ)
    → total (λ x. (suc s - x) * (suc s - x) * c x) (suc s) ≡ total (λ x. (s - x) * (s - x) * c x) s + 2 * total (λ x. (s - x) * c x) s + total c (suc s)
square_step_sum s c =
    let z : s - s ≡ 0 = omega arith in
    let i : (s - s) * (s - s) * c s ≡ 0 = rw z (omega arith) in
    let j : (s - s) * c s ≡ 0 = rw z (omega arith) in
    square_sum s c (suc s) (omega arith) ∙ omega (arith, i, j)

widen_square : (b q' q y t : ℕ) → q' ≡ q + 2 * y + t → b * q' ≡ b * q + 2 * (b * y) + b * t
widen_square b q' q y t h = ap (λ z. b * z) h ∙ omega arith

module _ (n : ℕ) (u v : Fraction) (k : Cleared (weight u (excess u v)) n) (up : 0 < u.num) where
  abbrev D : ℕ
  D = b n u v k * all n u v k

  abbrev U : ℕ
  U = a n u v k * all n u v k

  abbrev Dp : 0 < D
  Dp = b_all_positive n u v k

  abbrev w : ℕ
  w = (larger v u).den

  abbrev m : ℕ
  m = (larger v u).num * (D * D) + w * (U * U)

  abbrev Fp : 0 < w * (D * D)
  Fp = mul-pos (larger v u).positive (mul-pos Dp Dp)

  abbrev square : ℕ → ℕ
  square s = total (λ x. (s - x) * (s - x) * k.c x) s

  abbrev e : ℕ → ℕ
  e s = U + b n u v k * short n u v k s - s * D

  second_is : (s : ℕ) → s ≤ suc n
      → second n u v s ≈ over (m + s * s * (w * (D * D)) - 2 * s * (w * (D * U)) - w * (D * (b n u v k * square s))) (w * (D * D)) Fp
  unfolding second
  second_is s l =
      sub_same
      (sub_same
      (add_same
      (add_same (fraction_lifted (larger v u) (D * D) Fp)
      (mul_same (mean_is n u v k) (mean_is n u v k) ≈≈ product_lifted U U D w Dp Fp)
      ≈≈ add_over ((larger v u).num * (D * D)) (w * (U * U)) (w * (D * D)) Fp)
      (whole_over (s * s) (w * (D * D)) Fp)
      ≈≈ add_over m (s * s * (w * (D * D))) (w * (D * D)) Fp)
      (mul_same (same (whole (2 * s))) (mean_is n u v k ≈≈ lifted U D w Dp Fp) ≈≈ whole_times (2 * s) (w * (D * U)) (w * (D * D)) Fp)
      ≈≈ sub_over (m + s * s * (w * (D * D))) (2 * s * (w * (D * U))) (w * (D * D)) Fp)
      (total_over (λ x. whole ((s - x) * (s - x)) *ℚ chance n u v x) (λ x. (s - x) * (s - x) * k.c x) (all n u v k) (all_positive n u v k) s
      (λ x h. mul_same (same (whole ((s - x) * (s - x)))) (chance_is n u v k x (omega arith)) ≈≈ whole_times ((s - x) * (s - x)) (k.c x) (all n u v k) (all_positive n u v k))
      ≈≈ widened (b n u v k) (square s) (all n u v k) (all_positive n u v k) Dp
      ≈≈ lifted (b n u v k * square s) D w Dp Fp)
      ≈≈ sub_over (m + s * s * (w * (D * D)) - 2 * s * (w * (D * U))) (w * (D * (b n u v k * square s))) (w * (D * D)) Fp

  vbo_is : (s : ℕ) → s ≤ suc n
      → vbo n u v s ≈ over (m + s * s * (w * (D * D)) - 2 * s * (w * (D * U)) - w * (D * (b n u v k * square s)) - w * (e s * e s)) (w * (D * D)) Fp
  unfolding vbo
  vbo_is s l =
      unless_positive u.num _ up
      ≈≈ sub_same (second_is s l) (mul_same (ebo_is n u v k up s l) (ebo_is n u v k up s l) ≈≈ product_lifted (e s) (e s) D w Dp Fp)
      ≈≈ sub_over (m + s * s * (w * (D * D)) - 2 * s * (w * (D * U)) - w * (D * (b n u v k * square s))) (w * (e s * e s)) (w * (D * D)) Fp

  abbrev p : ℕ → ℕ
  p s = b n u v k * total k.c (suc s)

  p_small : (s : ℕ) → s ≤ n → p s ≤ D
  p_small s l = mul-le-mul_left (b n u v k) (below_all k.c s n l)

  step_is : (s : ℕ) → s ≤ n
      → (whole 2 *ℚ ebo n u v (suc s) +ℚ tail n u v s) *ℚ (whole 1 -ℚ tail n u v s)
      ≈ over (w * ((2 * e (suc s) + (D - p s)) * p s)) (w * (D * D)) Fp
  step_is s l =
      let i : 1 * D - (D - p s) ≡ p s = omega (arith, p_small s l) in
      mul_same
      (add_same
      (mul_same (same (whole 2)) (ebo_is n u v k up (suc s) (omega arith)) ≈≈ whole_times 2 (e (suc s)) D Dp)
      (tail_is n u v k up s l)
      ≈≈ add_over (2 * e (suc s)) (D - p s) D Dp)
      (sub_same (whole_over 1 D Dp) (tail_is n u v k up s l)
      ≈≈ sub_over (1 * D) (D - p s) D Dp
      ≈≈ record { cross = ap (λ z. z * D) i })
      ≈≈ product_lifted (2 * e (suc s) + (D - p s)) (p s) D w Dp Fp

  spread_falls_positive : (s : ℕ) → s ≤ n
      → vbo n u v (suc s) ≈ vbo n u v s -ℚ (whole 2 *ℚ ebo n u v (suc s) +ℚ tail n u v s) *ℚ (whole 1 -ℚ tail n u v s)
  spread_falls_positive s l =
      let i : D ≡ (D - p s) + p s = omega (arith, p_small s l) in
      let j : U + b n u v k * short n u v k s ≡ e s + s * D = omega (arith, reach_bound n u v k s (omega arith)) in
      vbo_is (suc s) (omega arith)
      ≈≈ record {
        cross = ap (λ z. z * (w * (D * D)))
            (spread_whole m w s U (b n u v k * short n u v k s) (b n u v k * short n u v k (suc s)) (e s) (e (suc s)) (D - p s) (p s)
            (b n u v k * square s) (b n u v k * square (suc s)) D i (falls_whole n u v k s l) j
            (widen_square (b n u v k) (square (suc s)) (square s) (short n u v k s) (total k.c (suc s)) (square_step_sum s k.c)));
      }
      ≈≈ turned (sub_over (m + s * s * (w * (D * D)) - 2 * s * (w * (D * U)) - w * (D * (b n u v k * square s)) - w * (e s * e s))
      (w * ((2 * e (suc s) + (D - p s)) * p s)) (w * (D * D)) Fp)
      ≈≈ sub_same (turned (vbo_is s (omega arith))) (turned (step_is s l))

  raised_is : (s : ℕ) → raised u v s ≈ over (m + s * s * (w * (D * D))) (w * (D * D)) Fp
  raised_is s =
      add_same
      (add_same (fraction_lifted (larger v u) (D * D) Fp)
      (mul_same (mean_is n u v k) (mean_is n u v k) ≈≈ product_lifted U U D w Dp Fp)
      ≈≈ add_over ((larger v u).num * (D * D)) (w * (U * U)) (w * (D * D)) Fp)
      (whole_over (s * s) (w * (D * D)) Fp)
      ≈≈ add_over m (s * s * (w * (D * D))) (w * (D * D)) Fp

  lowered_is : (s : ℕ) → s ≤ suc n
      → lowered n u v s ≈ over (2 * s * (w * (D * U)) + w * (D * (b n u v k * square s)) + w * (e s * e s)) (w * (D * D)) Fp
  lowered_is s l =
      add_same
      (add_same
      (mul_same (same (whole (2 * s))) (mean_is n u v k ≈≈ lifted U D w Dp Fp) ≈≈ whole_times (2 * s) (w * (D * U)) (w * (D * D)) Fp)
      (total_over (λ x. whole ((s - x) * (s - x)) *ℚ chance n u v x) (λ x. (s - x) * (s - x) * k.c x) (all n u v k) (all_positive n u v k) s
      (λ x h. mul_same (same (whole ((s - x) * (s - x)))) (chance_is n u v k x (omega arith)) ≈≈ whole_times ((s - x) * (s - x)) (k.c x) (all n u v k) (all_positive n u v k))
      ≈≈ widened (b n u v k) (square s) (all n u v k) (all_positive n u v k) Dp
      ≈≈ lifted (b n u v k * square s) D w Dp Fp)
      ≈≈ add_over (2 * s * (w * (D * U))) (w * (D * (b n u v k * square s))) (w * (D * D)) Fp)
      (mul_same (ebo_is n u v k up s l) (ebo_is n u v k up s l) ≈≈ product_lifted (e s) (e s) D w Dp Fp)
      ≈≈ add_over (2 * s * (w * (D * U)) + w * (D * (b n u v k * square s))) (w * (e s * e s)) (w * (D * D)) Fp

  balance_step : (m s t a c x y : ℕ) → s + a ≡ t + c + x → (m + s + a) * y ≡ (m + t + c + x) * y
  balance_step m s t a c x y h = ap (λ z. z * y) (omega (arith, h))

  uncut_falls : (s : ℕ) → s ≤ n
      → raised u v s +ℚ lowered n u v (suc s)
      ≈ raised u v (suc s) +ℚ lowered n u v s +ℚ (whole 2 *ℚ ebo n u v (suc s) +ℚ tail n u v s) *ℚ (whole 1 -ℚ tail n u v s)
  uncut_falls s l =
      let i : D ≡ (D - p s) + p s = omega (arith, p_small s l) in
      let j : U + b n u v k * short n u v k s ≡ e s + s * D = omega (arith, reach_bound n u v k s (omega arith)) in
      let h = spread_balance w s U (b n u v k * short n u v k s) (b n u v k * short n u v k (suc s)) (e s) (e (suc s)) (D - p s) (p s)
      (b n u v k * square s) (b n u v k * square (suc s)) D i (falls_whole n u v k s l) j
      (widen_square (b n u v k) (square (suc s)) (square s) (short n u v k s) (total k.c (suc s)) (square_step_sum s k.c)) in
      add_same (raised_is s) (lowered_is (suc s) (omega arith))
      ≈≈ add_over (m + s * s * (w * (D * D))) (2 * suc s * (w * (D * U)) + w * (D * (b n u v k * square (suc s))) + w * (e (suc s) * e (suc s))) (w * (D * D)) Fp
      ≈≈ record {
        cross = balance_step m (s * s * (w * (D * D))) (suc s * suc s * (w * (D * D)))
            (2 * suc s * (w * (D * U)) + w * (D * (b n u v k * square (suc s))) + w * (e (suc s) * e (suc s)))
            (2 * s * (w * (D * U)) + w * (D * (b n u v k * square s)) + w * (e s * e s))
            (w * ((2 * e (suc s) + (D - p s)) * p s)) (w * (D * D)) (omega (arith, h));
      }
      ≈≈ turned (add_same (add_same (raised_is (suc s)) (lowered_is s (omega arith))
      ≈≈ add_over (m + suc s * suc s * (w * (D * D))) (2 * s * (w * (D * U)) + w * (D * (b n u v k * square s)) + w * (e s * e s)) (w * (D * D)) Fp)
      (step_is s l)
      ≈≈ add_over (m + suc s * suc s * (w * (D * D)) + (2 * s * (w * (D * U)) + w * (D * (b n u v k * square s)) + w * (e s * e s)))
      (w * ((2 * e (suc s) + (D - p s)) * p s)) (w * (D * D)) Fp)

-- the same without a cut
pub falls_uncut : (n : ℕ) (u v : Fraction) (s : ℕ) → 0 < u.num → s ≤ n
    → raised u v s +ℚ lowered n u v (suc s)
    ≈ raised u v (suc s) +ℚ lowered n u v s +ℚ (whole 2 *ℚ ebo n u v (suc s) +ℚ tail n u v s) *ℚ (whole 1 -ℚ tail n u v s)
falls_uncut n u v s p l = uncut_falls n u v (cleared (weight u (excess u v)) n) p s l

zero_falls : (z : ℕ) (q r t : Fraction) → z ≡ 0 → unless_zero z q ≈ unless_zero z r -ℚ t
unfolding unless_zero whole ◌-ℚ◌
zero_falls z q r t h = rw h (record { cross = omega arith })

-- VBO falls by (2 EBO(s + 1) + G(s)) (1 - G(s)), cut at 0
pub spread_falls : (n : ℕ) (u v : Fraction) (s : ℕ) → s ≤ n
    → vbo n u v (suc s) ≈ vbo n u v s -ℚ (whole 2 *ℚ ebo n u v (suc s) +ℚ tail n u v s) *ℚ (whole 1 -ℚ tail n u v s)
unfolding vbo
spread_falls n u v s l = elim (eq-zero-or-pos u.num) [
  | inl h ↦ zero_falls u.num _ _ _ h
  | inr h ↦ (unfold vbo in spread_falls_positive n u v (cleared (weight u (excess u v)) n) h s l)
]
