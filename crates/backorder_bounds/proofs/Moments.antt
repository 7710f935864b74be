-- 1 / (1 + excess), which is the mean over the variance where that is at most 1.
use Rattle.std.proofs.Common.{◌≡◌, ℕ, ◌+◌, ◌-◌, ◌*◌, ◌/◌, ◌<◌, ◌≤◌, ◌^◌, max, min, inl, inr, ap, ◌∙◌, refl, arith, subst, pow_pos, le_trans, mul-le-mul_left, mul-le-mul_right, le_of_mul-le-mul_right}
use Rattle.std.specs.Int.{div_ceil}
use Rattle.std.proofs.Math.Nat.{div-mul-le_self, lt-mul-div-succ}
use Rattle.std.proofs.lemmas.Bool.{cases_lt}
use Rattle.std.proofs.lemmas.Grind.{div_ceil_times}
use Rattle.list_laws.proofs.Public.{floor_below_ceil}
use Rattle.fixed_interval.specs.Ends.{Ends}
use Rattle.moment_table.specs.Profile.{excess_ends}
use Rattle.backorder_bounds.specs.Lead.{IsInverse}
use Rattle.backorder_bounds.specs.declared.scale.Coarse.{Coarse}
use Rattle.backorder_bounds.specs.Coarse.{IsCoarse, coarse_unit}
use Rattle.backorder_bounds.proofs.Coarse.{places}

-- ---- 1 / (1 + excess), over plain numbers: o is one whole

-- l is at most the mean over the variance, and b is the variance over the mean, rounded up
inverse_low : (o m t l b : ℕ) → 0 < m → l ≤ o → o ≤ b → l * t ≤ m * o → (b - 1) * m ≤ t * o → (l - 1) * b ≤ o * o
inverse_low o m t l b p h k i j =
    let a : l * ((b - 1) * m) ≤ l * (t * o) = mul-le-mul_left l j in
    let c : l * t * o ≤ m * o * o = mul-le-mul_right o i in
    let e : l * (b - 1) ≤ o * o = le_of_mul-le-mul_right {m = l * (b - 1)} {n = o * o} {k = m} (omega (arith, a, c)) p in
    elim (cases_lt 0 l) [
      | inr z ↦ (let y : l - 1 ≡ 0 = omega (arith, z) in rw y (omega arith))
      | inl z ↦ (let y : l ≡ (l - 1) + 1 = omega (arith, z) in
          elim (cases_lt 0 b) [
            | inr w ↦ (let x : b ≡ 0 = omega (arith, w) in rw x (omega arith))
            | inl w ↦ (let x : b ≡ (b - 1) + 1 = omega (arith, w) in
                let q : (l - 1) * b ≡ (l - 1) * (b - 1) + (l - 1) = ap (λ u. (l - 1) * u) x ∙ omega arith in
                let r : l * (b - 1) ≡ (l - 1) * (b - 1) + (b - 1) = ap (λ u. u * (b - 1)) y ∙ omega arith in
                omega (arith, q, r, e, h, k, z, w))
          ])
    ]

-- h is at least the mean over the variance, and b is the variance over the mean, rounded down
inverse_high : (o m t h b : ℕ) → 0 < m → h ≤ o → o ≤ b → m * o ≤ h * t → t * o ≤ (b + 1) * m → o * o ≤ (h + 1) * b
inverse_high o m t h b p l k i j =
    let a : m * o * o ≤ h * t * o = mul-le-mul_right o i in
    let c : h * (t * o) ≤ h * ((b + 1) * m) = mul-le-mul_left h j in
    let e : o * o ≤ h * (b + 1) = le_of_mul-le-mul_right {m = o * o} {n = h * (b + 1)} {k = m} (omega (arith, a, c)) p in
    omega (arith, e, l, k)

-- ---- the excess

module _ (f : ℕ) (m v : Ends) (p : 0 < m.lo) (o : m.lo ≤ m.hi) where
  d : Ends
  d = excess_ends f m v

  -- 1 and the upper end of the excess
  high_is : 1 * 2 ^ f + d.hi ≡ max (2 ^ f) (div_ceil (v.hi * 2 ^ f) m.lo)
  unfolding d excess_ends
  high_is = omega arith

  low_is : 1 * 2 ^ f + d.lo ≡ max (2 ^ f) (v.lo * 2 ^ f / m.hi)
  unfolding d excess_ends
  low_is = omega arith

  low_most : (l t : ℕ) → m.hi ≤ t → v.hi ≤ t → l * t ≤ m.lo * 2 ^ f → (l - 1) * (1 * 2 ^ f + d.hi) ≤ 2 ^ f * 2 ^ f
  low_most l t h k i =
      let u : m.lo ≤ t = le_trans o h in
      let one : l ≤ 2 ^ f = le_of_mul-le-mul_right {m = l} {n = 2 ^ f} {k = t} (omega (arith, i, mul-le-mul_left (2 ^ f) u)) (omega (arith, p, o, h)) in
      let x = div_ceil (v.hi * 2 ^ f) m.lo in
      elim (cases_lt (2 ^ f) x) [
        | inl e ↦
            (let b : 1 * 2 ^ f + d.hi ≡ x = omega (arith, high_is, e) in
            let c : x * m.lo < v.hi * 2 ^ f + m.lo = (div_ceil_times (v.hi * 2 ^ f) m.lo p).1 in
            let y : x ≡ (x - 1) + 1 = omega (arith, e) in
            let z : x * m.lo ≡ (x - 1) * m.lo + m.lo = ap (λ u. u * m.lo) y ∙ omega arith in
            rw b (inverse_low (2 ^ f) m.lo t l x p one (omega (arith, e)) i (omega (arith, c, z, mul-le-mul_right (2 ^ f) k))))
        | inr e ↦
            (let b : 1 * 2 ^ f + d.hi ≡ 2 ^ f = omega (arith, high_is, e) in
            let c : (l - 1) * 2 ^ f ≤ 2 ^ f * 2 ^ f = mul-le-mul_right (2 ^ f) (omega (arith, one)) in
            rw b c)
      ]

  high_least : (h t : ℕ) → t ≡ max v.lo m.lo → m.hi * 2 ^ f ≤ h * t → 2 ^ f * 2 ^ f ≤ min (h + 1) (2 ^ f) * (1 * 2 ^ f + d.lo)
  high_least h t e i =
      let n : 2 ^ f ≤ 1 * 2 ^ f + d.lo = omega (arith, low_is) in
      elim (cases_lt h (2 ^ f)) [
        | inr k ↦ (let z : min (h + 1) (2 ^ f) ≡ 2 ^ f = omega (arith, k) in rw z (mul-le-mul_left (2 ^ f) n))
        | inl k ↦
            (let z : min (h + 1) (2 ^ f) ≡ h + 1 = omega (arith, k) in
            elim (cases_lt v.lo m.hi) [
              | inl l ↦
                  (let a : t ≤ m.hi = omega (arith, e, l, o) in
                  let c : h * t ≤ h * m.hi = mul-le-mul_left h a in
                  let b : m.hi * 2 ^ f ≤ h * m.hi = omega (arith, c, i) in
                  let y : 2 ^ f ≤ h = le_of_mul-le-mul_right {m = 2 ^ f} {n = h} {k = m.hi} (omega (arith, b)) (omega (arith, p, o)) in
                  absurd (omega (arith, y, k)))
              | inr l ↦
                  (let a : t ≡ v.lo = omega (arith, e, l, o) in
                  let x = v.lo * 2 ^ f / m.hi in
                  let b : 2 ^ f ≤ 1 * 2 ^ f + d.lo = n in
                  let y : x ≤ 1 * 2 ^ f + d.lo = omega (arith, low_is) in
                  let w : v.lo * 2 ^ f < m.hi * (x + 1) = lt-mul-div-succ (v.lo * 2 ^ f) (omega (arith, p, o)) in
                  let g : (x + 1) * m.hi ≤ (1 * 2 ^ f + d.lo + 1) * m.hi = mul-le-mul_right m.hi (omega (arith, y)) in
                  let q : m.hi * 2 ^ f ≤ h * v.lo = subst (λ u. m.hi * 2 ^ f ≤ h * u) a i in
                  rw z (inverse_high (2 ^ f) m.hi v.lo h (1 * 2 ^ f + d.lo) (omega (arith, p, o)) (omega (arith, k)) b q (omega (arith, w, g))))
            ])
      ]

  ordered : v.lo ≤ v.hi → d.lo ≤ d.hi
  unfolding d excess_ends
  ordered h = omega (arith, floor_below_ceil (v.lo * 2 ^ f) m.hi (v.hi * 2 ^ f) m.lo (mul-le-mul_right (2 ^ f) h) p o)

  -- the mean over no smaller a variance, less a unit, and over no larger a one, and a unit more
  pub inverse_is : (mean variance : Coarse) (least most low high : ℕ) → 46 ≤ f → v.lo ≤ v.hi → IsCoarse f m mean → IsCoarse f v variance → 0 < mean.lo
      → least ≡ max variance.lo mean.lo → most ≡ max variance.hi mean.hi → low ≤ mean.lo * 2 ^ 36 / most - 1 → high ≡ min (mean.hi * 2 ^ 36 / least + 2) (2 ^ 36)
      → low ≤ high → 2 ^ 36 ≤ 8 * low → IsInverse f (excess_ends f m v) low high
  unfolding d
  inverse_is mean variance least most low high l n cm cv q et eb el eh k r =
      let u = coarse_unit f in
      let w : 2 ^ f ≡ 2 ^ 36 * u = places f l in
      let up : 0 < u = pow_pos (f - 36) in
      record {
        under = (let a : (low + 1) * most ≤ mean.lo * 2 ^ 36 = (let b : mean.lo * 2 ^ 36 / most * most ≤ mean.lo * 2 ^ 36 = div-mul-le_self (mean.lo * 2 ^ 36) most in
            let c : low + 1 ≤ mean.lo * 2 ^ 36 / most = omega (arith, el, r) in le_trans (mul-le-mul_right most c) b) in
            let b : (low + 1) * most * (u * u) ≤ mean.lo * 2 ^ 36 * (u * u) = mul-le-mul_right (u * u) a in
            let c : mean.lo * u * 2 ^ f ≤ m.lo * 2 ^ f = mul-le-mul_right (2 ^ f) cm.low in
            let e : mean.lo * u * 2 ^ f ≡ mean.lo * 2 ^ 36 * (u * u) = ap (λ x. mean.lo * u * x) w ∙ omega arith in
            let i : mean.hi * u ≤ most * u = mul-le-mul_right u (omega (arith, eb)) in
            let j : variance.hi * u ≤ most * u = mul-le-mul_right u (omega (arith, eb)) in
            let z = low_most ((low + 1) * u) (most * u) (omega (arith, i, cm.high)) (omega (arith, j, cv.high)) (omega (arith, b, c, e)) in
            le_trans (mul-le-mul_right (1 * 2 ^ f + d.hi) (let y : low * u ≤ (low + 1) * u - 1 = omega (arith, up) in y)) z);
        over = (let h = mean.hi * 2 ^ 36 / least + 1 in
            let t = max v.lo m.lo in
            let a : mean.hi * 2 ^ 36 < least * h = lt-mul-div-succ (mean.hi * 2 ^ 36) (omega (arith, et, q)) in
            let b : mean.hi * 2 ^ 36 * (u * u) ≤ least * h * (u * u) = mul-le-mul_right (u * u) (omega (arith, a)) in
            let c : m.hi * 2 ^ f ≤ mean.hi * u * 2 ^ f = mul-le-mul_right (2 ^ f) cm.high in
            let e : mean.hi * u * 2 ^ f ≡ mean.hi * 2 ^ 36 * (u * u) = ap (λ x. mean.hi * u * x) w ∙ omega arith in
            let i : least * u ≤ t = elim (cases_lt variance.lo mean.lo) [
              | inl y ↦ (let g : least ≡ mean.lo = omega (arith, et, y) in rw g (omega (arith, cm.low)))
              | inr y ↦ (let g : least ≡ variance.lo = omega (arith, et, y) in rw g (omega (arith, cv.low)))
            ] in
            let j : h * u * (least * u) ≤ h * u * t = mul-le-mul_left (h * u) i in
            let z = high_least (h * u) t refl (omega (arith, b, c, e, j)) in
            let g : min (h * u + 1) (2 ^ f) ≤ high * u = elim (cases_lt (h + 1) (2 ^ 36)) [
              | inl y ↦ (let x : high ≡ h + 1 = omega (arith, eh, y) in rw x (omega (arith, up)))
              | inr y ↦ (let x : high ≡ 2 ^ 36 = omega (arith, eh, y) in rw x (omega (arith, w)))
            ] in
            le_trans z (mul-le-mul_right (1 * 2 ^ f + d.lo) g));
        ordered = k;
        most = omega (arith, eh);
        least = r;
      }

  -- the ends of the excess are in order
  pub excess_ordered : v.lo ≤ v.hi → (excess_ends f m v).lo ≤ (excess_ends f m v).hi
  unfolding d
  excess_ordered h = ordered h
