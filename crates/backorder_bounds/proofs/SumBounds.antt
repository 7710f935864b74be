-- The sum of all weights is at most that of the first ones and a geometric series.
use Rattle.std.proofs.Common.{◌≡◌, ℕ, zero, suc, ◌+◌, ◌-◌, ◌*◌, ◌/◌, ◌<◌, ◌≤◌, ◌^◌, false, sym, ap, ◌∙◌, refl, arith, subst, le_trans, le_of_eq, pow_pos, inl, inr, mul-le-mul_left, mul-le-mul_right}
use Rattle.std.specs.Int.{div_ceil}
use Rattle.std.proofs.Math.Nat.{mul-pos}
use Rattle.std.proofs.lemmas.Nat.{le-div}
use Rattle.std.proofs.lemmas.Grind.{div_ceil_times}
use Rattle.std.proofs.lemmas.Bool.{cases_lt}
use Rattle.list_laws.proofs.Public.{ceil_above, ceil_most, ratio_stays, total}
use Rattle.fixed_interval.specs.Ends.{Ends}
use Rattle.series_bounds.specs.Profile.{ends_sum, far_ratio, is_wide, last_index, listed, pivot_at, ratio_bound, ratio_ends, remainder_at, remainder_from, weight_ends}
use Rattle.series_bounds.proofs.Public.{sum_hi, last_most, narrow_from, weight_up, end_from_63, last_start, exists_is}
use Rattle.backorder_bounds.specs.declared.sums.Rising.{Rising}
use Rattle.backorder_bounds.specs.Coarse.{coarse_unit}
use Rattle.backorder_bounds.specs.Lead.{AreOver, all_sum}

-- ---- ratios

-- the numerator of a ratio is at most what its parts come to
pub num_most : (m e o first step den x q : ℕ) → m * o ≤ first * den → e * o ≤ step * den → first + step * (x - 1) ≤ q * x → (m + e * (x - 1)) * o ≤ q * (den * x)
num_most m e o first step den x q h k l =
    let a : e * o * (x - 1) ≤ step * den * (x - 1) = mul-le-mul_right (x - 1) k in
    let b : (first + step * (x - 1)) * den ≤ q * x * den = mul-le-mul_right den l in
    omega (arith, a, b, h)

-- a ratio is at most q where the number there is at most q times the index
pub ratio_most : (f : ℕ) (m d : Ends) (over : Rising) (x q : ℕ) → 0 < x → AreOver f m d over → over.first + over.step * (x - 1) ≤ q * x → (ratio_ends f m d x).hi ≤ q * coarse_unit f
unfolding ratio_ends
ratio_most f m d over x q p h l =
    ceil_most ((m.hi + d.hi * (x - 1)) * 2 ^ f) ((1 * 2 ^ f + d.lo) * x) (q * coarse_unit f) (mul-pos {m = 1 * 2 ^ f + d.lo} {n = x} (omega (arith, pow_pos f)) p)
    (num_most m.hi d.hi (2 ^ f) (over.first * coarse_unit f) (over.step * coarse_unit f) (1 * 2 ^ f + d.lo) x (q * coarse_unit f) h.first h.step (omega (arith, mul-le-mul_right (coarse_unit f) l)))

-- and so are all later ones, where the step is at most q
pub ratios_most : (f : ℕ) (m d : Ends) (over : Rising) (k q : ℕ) → AreOver f m d over → over.first + over.step * k ≤ q * (k + 1) → over.step ≤ q
    → (x : ℕ) → k < x → (ratio_ends f m d x).hi ≤ q * coarse_unit f
ratios_most f m d over k q h a s x i =
    let z : k + 1 - 1 ≡ k = omega arith in
    ratio_most f m d over x q (omega (arith, i)) h
    (ratio_stays over.first over.step q (k + 1) x (omega arith) (omega (arith, i)) (subst (λ y. over.first + over.step * y ≤ q * (k + 1)) (sym z) a) s)

-- what the ratios tend to is at most the step
pub far_most : (f : ℕ) (m d : Ends) (over : Rising) → AreOver f m d over → far_ratio f d ≤ over.step * coarse_unit f
far_most f m d over h =
    ceil_most (d.hi * 2 ^ f) (2 ^ f + d.hi) (over.step * coarse_unit f) (omega (arith, pow_pos f))
    (let g : 1 * 2 ^ f + d.lo ≤ 2 ^ f + d.hi = omega (arith, h.excess) in le_trans h.step (mul-le-mul_left (over.step * coarse_unit f) g))

-- ---- the sum from k on, over plain numbers: o is one whole, q bounds the ratios, and w are the upper ends of the weights

module _ (o q k : ℕ) (w : ℕ → ℕ) (last : ℕ) (below : q < o) (start : w k ≤ last) (next : (j : ℕ) → k ≤ j → w (suc j) * o ≤ w j * q + o) where
  -- a weight times what it leaves
  step_sum : (t a b u : ℕ) → b * o ≤ a * q + o → t * (o - q) + a * o ≤ u → (t + a) * (o - q) + b * o ≤ u + o
  step_sum t a b u h l =
      let g : o - q + q ≡ o = omega (arith, below) in
      let i : a * o ≡ a * (o - q) + a * q = ap (λ z. a * z) (sym g) ∙ omega arith in
      omega (arith, h, l, i)

  -- the sum below k + n with the weight there
  sum_to : (n : ℕ) → total w (k + n) * (o - q) + w (k + n) * o ≤ total w k * (o - q) + last * o + n * o
  sum_to zero =
      let z : k + 0 ≡ k = omega arith in
      rw z (omega (arith, mul-le-mul_right o start))
  sum_to (suc n) =
      let z : k + suc n ≡ suc (k + n) = omega arith in
      rw z (le_trans (step_sum (total w (k + n)) (w (k + n)) (w (suc (k + n))) (total w k * (o - q) + last * o + n * o) (next (k + n) (omega arith)) (sum_to n)) (omega arith))

  rest_of : (t a r u : ℕ) → r * (o - q) ≤ a * q + o → t * (o - q) + a * o ≤ u → (t + a + r) * (o - q) ≤ u + o
  rest_of t a r u h l =
      let g : o - q + q ≡ o = omega (arith, below) in
      let i : a * o ≡ a * (o - q) + a * q = ap (λ z. a * z) (sym g) ∙ omega arith in
      omega (arith, h, l, i)

  quotient_of : (t b s c : ℕ) → t * (o - q) ≤ b * (o - q) + c → b ≤ s → t ≤ s + c / (o - q)
  quotient_of t b s c h l =
      let i : (t - b) * (o - q) ≤ c = (let j : t ≤ b + (t - b) = omega arith in elim (cases_lt t b) [
        | inl e ↦ (let z : t - b ≡ 0 = omega arith in rw z (omega arith))
        | inr e ↦ (let z : t ≡ b + (t - b) = omega arith in
            let y : t * (o - q) ≡ b * (o - q) + (t - b) * (o - q) = ap (λ x. x * (o - q)) z ∙ omega arith in omega (arith, y, h))
      ]) in
      let a : t - b ≤ c / (o - q) = le-div (t - b) c (o - q) (omega (arith, below)) i in
      omega (arith, a, l)

  -- the sum of all weights with the rest past the last one
  pub sum_all : (n r sum : ℕ) → n ≤ 1024 → r * (o - q) ≤ w (k + n) * q + o → total w k ≤ sum
      → total w (suc (k + n)) + r ≤ sum + (last + 1025) * o / (o - q)
  sum_all n r sum l h b =
      let a : (total w (k + n) + w (k + n) + r) * (o - q) ≤ total w k * (o - q) + last * o + n * o + o =
      rest_of (total w (k + n)) (w (k + n)) r (total w k * (o - q) + last * o + n * o) h (sum_to n) in
      let c : n * o ≤ 1024 * o = mul-le-mul_right o l in
      quotient_of (total w (k + n) + w (k + n) + r) (total w k) sum ((last + 1025) * o) (omega (arith, a, c)) b

-- ---- the weights

weight_next : (f : ℕ) (a r q : ℕ) → r ≤ q → div_ceil (a * r) (2 ^ f) * 2 ^ f ≤ a * q + 2 ^ f
weight_next f a r q h = omega (arith, (div_ceil_times (a * r) (2 ^ f) (pow_pos f)).1, mul-le-mul_left a h)

weight_falls : (f : ℕ) (a r : ℕ) → r ≤ 2 ^ f → div_ceil (a * r) (2 ^ f) ≤ a
weight_falls f a r h = ceil_most (a * r) (2 ^ f) a (pow_pos f) (mul-le-mul_left a h)

rest_small : (o top b q : ℕ) → b ≤ q → q < o → div_ceil (top * b) (o - b) * (o - q) ≤ top * q + o
rest_small o top b q h l =
    let a : top * q ≤ div_ceil (top * q) (o - q) * (o - q) = ceil_above (top * q) (o - q) (omega (arith, l)) in
    let c : div_ceil (top * q) (o - q) * (o - q) < top * q + (o - q) = (div_ceil_times (top * q) (o - q) (omega (arith, l))).1 in
    let g : o - q ≤ o - b = omega (arith, h) in
    let e : div_ceil (top * b) (o - b) ≤ div_ceil (top * q) (o - q) =
    ceil_most (top * b) (o - b) (div_ceil (top * q) (o - q)) (omega (arith, h, l))
    (le_trans (mul-le-mul_left top h) (le_trans a (mul-le-mul_left (div_ceil (top * q) (o - q)) g))) in
    omega (arith, c, mul-le-mul_right (o - q) e)

module _ (f : ℕ) (m d : Ends) (k q last : ℕ) (place : pivot_at f m d ≤ k) (early : k ≤ 63) (ratios : (x : ℕ) → k < x → (ratio_ends f m d x).hi ≤ q) (far : far_ratio f d ≤ q) (below : q < 2 ^ f)
    (here : (weight_ends f m d k).hi ≤ last) where
  top : ℕ → ℕ
  top x = (weight_ends f m d x).hi

  up : (j : ℕ) → k ≤ j → top (suc j) ≡ div_ceil (top j * (ratio_ends f m d (suc j)).hi) (2 ^ f)
  unfolding top
  up j l =
      let z : suc j - 1 ≡ j = omega arith in
      ap (λ (y : Ends). y.hi) (weight_up f m d (suc j) (omega (arith, place, l))) ∙ ap (λ x. div_ceil ((weight_ends f m d x).hi * (ratio_ends f m d (suc j)).hi) (2 ^ f)) z

  next : (j : ℕ) → k ≤ j → top (suc j) * 2 ^ f ≤ top j * q + 2 ^ f
  next j l = rw (up j l) (weight_next f (top j) (ratio_ends f m d (suc j)).hi q (ratios (suc j) (omega (arith, l))))

  falls : (n : ℕ) → top (k + n) ≤ last
  unfolding top
  falls zero = (let z : k + 0 ≡ k = omega arith in rw z here)
  falls (suc n) =
      let z : k + suc n ≡ suc (k + n) = omega arith in
      let r : (ratio_ends f m d (suc (k + n))).hi ≤ 2 ^ f = omega (arith, below, ratios (suc (k + n)) (omega arith)) in
      rw z (le_trans (le_of_eq (up (k + n) (omega arith))) (le_trans (weight_falls f (top (k + n)) (ratio_ends f m d (suc (k + n))).hi r) (falls n)))

  bound : ratio_bound f m d (last_index f m d) ≤ q
  unfolding ratio_bound
  bound =
      let a : (ratio_ends f m d (last_index f m d + 1)).hi ≤ q = ratios (last_index f m d + 1) (omega (arith, early, end_from_63 f m d, last_start f m d)) in
      omega (arith, a, far)

  last_from_k : k ≤ last_index f m d
  last_from_k = omega (arith, early, end_from_63 f m d, last_start f m d)

  -- the answer isn't wide
  pub narrow : last ≤ 8 * 2 ^ f → ((x : ℕ) → x < k → (weight_ends f m d x).hi ≤ 8 * 2 ^ f) → is_wide f m d ≡ false
  unfolding top
  narrow most tops =
      narrow_from f m d (λ x l. elim (cases_lt x k) [
        | inl e ↦ tops x e
        | inr e ↦ (let z : k + (x - k) ≡ x = omega (arith, e) in subst (λ y. (weight_ends f m d y).hi ≤ 8 * 2 ^ f) z (le_trans (falls (x - k)) most))
      ])
      (exists_is f m d (last_index f m d) (ratio_bound f m d (last_index f m d)) refl (omega (arith, bound, below)))

  rest : remainder_at f m d (last_index f m d) * (2 ^ f - q) ≤ top (last_index f m d) * q + 2 ^ f
  unfolding top remainder_from
  rest = rest_small (2 ^ f) (weight_ends f m d (last_index f m d)).hi (ratio_bound f m d (last_index f m d)) q bound below

  -- the sum of all is at most this
  pub sum_bound : pivot_at f m d ≤ 256 → (sum : ℕ) → (ends_sum (listed (weight_ends f m d) k)).hi ≤ sum → (all_sum f m d).hi ≤ sum + (last + 1025) * 2 ^ f / (2 ^ f - q)
  unfolding top
  sum_bound p sum l =
      let K = last_index f m d in
      let z : k + (K - k) ≡ K = omega (arith, last_from_k) in
      let b : total (λ x. (weight_ends f m d x).hi) k ≤ sum = rw sum_hi at l in
      let a : total (λ x. (weight_ends f m d x).hi) (suc (k + (K - k))) + remainder_at f m d K ≤ sum + (last + 1025) * 2 ^ f / (2 ^ f - q) =
      sum_all (2 ^ f) q k (λ x. (weight_ends f m d x).hi) last below here next (K - k) (remainder_at f m d K) sum (omega (arith, last_most f m d p))
      (subst (λ y. remainder_at f m d K * (2 ^ f - q) ≤ (weight_ends f m d y).hi * q + 2 ^ f) (sym z) rest) b in
      rw sum_hi (subst (λ y. total (λ x. (weight_ends f m d x).hi) (suc y) + remainder_at f m d K ≤ sum + (last + 1025) * 2 ^ f / (2 ^ f - q)) z a)
