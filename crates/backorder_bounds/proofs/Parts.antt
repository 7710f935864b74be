-- The parts of ratios from the ends of the mean and of 1 / (1 + excess). Over plain numbers o is one whole, a and
-- a + y are the ends of 1 and the excess, and low and low + x of their inverse.
use Rattle.std.proofs.Common.{◌≡◌, ℕ, ◌+◌, ◌-◌, ◌*◌, ◌/◌, ◌<◌, ◌≤◌, ◌^◌, inl, inr, sym, ap, ◌∙◌, arith, lit<, subst, pow_pos, le_trans, mul-le-mul_left, mul-le-mul_right, le_of_mul-le-mul_right}
use Rattle.std.proofs.Math.Nat.{div-eq_of_lt, div-mul-le_self, lt-mul-div-succ, lt_of_mul-lt-mul_right, mul-pos, mul-sub}
use Rattle.std.proofs.lemmas.Bool.{cases_lt}
use Rattle.fixed_interval.specs.Ends.{Ends}
use Rattle.series_bounds.specs.Profile.{pivot_at}
use Rattle.moment_table.specs.Profile.{excess_ends}
use Rattle.backorder_bounds.specs.declared.sums.Rising.{Rising}
use Rattle.backorder_bounds.specs.Lead.{AreOver, AreUnder, IsInverse}
use Rattle.backorder_bounds.specs.declared.scale.Coarse.{Coarse}
use Rattle.backorder_bounds.specs.Coarse.{IsCoarse, coarse_unit}
use Rattle.backorder_bounds.proofs.Coarse.{places}
use Rattle.backorder_bounds.proofs.Moments.{excess_ordered}

gap : (o a y low x : ℕ) → o ≤ 8 * low → low * (a + y) ≤ (low + x) * a → o * y ≤ 8 * (x * a)
gap o a y low x e h = omega (arith, mul-le-mul_right y e, h)

step_high : (o a y low x : ℕ) → o ≤ 8 * low → low ≤ o → low * (a + y) ≤ o * o → o * o ≤ (low + x) * a → (a + y - o) * o ≤ (o - low + 8 * x) * a
step_high o a y low x e l h k =
    let g : o * y ≤ 8 * (x * a) = gap o a y low x e (le_trans h k) in
    let c : (a + y - o) * o ≡ (a + y) * o - o * o = omega (arith, mul-sub o (a + y) o) in
    let i : o - low + low ≡ o = omega (arith, l) in
    let j : o * a ≡ (o - low) * a + low * a = ap (λ u. u * a) (sym i) ∙ omega arith in
    omega (arith, c, j, h, g)

step_low : (o a y low x : ℕ) → o ≤ 8 * low → low * (a + y) ≤ o * o → o * o ≤ (low + x) * a → (o - (low + x) - 8 * x) * (a + y) ≤ (a - o) * o
step_low o a y low x e h k =
    let g : o * y ≤ 8 * (x * a) = gap o a y low x e (le_trans h k) in
    let z = o - (low + x) - 8 * x in
    elim (cases_lt 0 z) [
      | inr n ↦ (let u : z ≡ 0 = omega (arith, n) in rw u (omega arith))
      | inl n ↦
          (let i : o ≡ z + (low + x) + 8 * x = omega (arith, n) in
          let j : o * (a + y) ≡ z * (a + y) + (low + x) * (a + y) + 8 * x * (a + y) = ap (λ u. u * (a + y)) i ∙ omega arith in
          let c : (a - o) * o ≡ a * o - o * o = omega (arith, mul-sub o a o) in
          omega (arith, j, c, g, k))
    ]

first_high : (o m high a r : ℕ) → 0 < o → o * o ≤ high * a → m * high ≤ o * r → m * o ≤ r * a
first_high o m high a r p h k =
    let c : m * (o * o) ≤ m * (high * a) = mul-le-mul_left m h in
    let e : m * high * a ≤ o * r * a = mul-le-mul_right a k in
    le_of_mul-le-mul_right {m = m * o} {n = r * a} {k = o} (omega (arith, c, e)) p

first_low : (o m low b r : ℕ) → 0 < o → low * b ≤ o * o → r * o ≤ m * low → r * b ≤ m * o
first_low o m low b r p h k =
    let c : m * (low * b) ≤ m * (o * o) = mul-le-mul_left m h in
    let e : r * o * b ≤ m * low * b = mul-le-mul_right b k in
    le_of_mul-le-mul_right {m = r * b} {n = m * o} {k = o} (omega (arith, c, e)) p

module _ (f : ℕ) (m d : Ends) (low high : ℕ) (l : 46 ≤ f) (o : d.lo ≤ d.hi) (i : IsInverse f d low high) where
  u : ℕ
  u = coarse_unit f

  whole : 2 ^ f ≡ 2 ^ 36 * u
  unfolding u
  whole = places f l

  wide : 1 * 2 ^ f + d.lo + (d.hi - d.lo) ≡ 1 * 2 ^ f + d.hi
  wide = omega (arith, o)

  apart : low * u + (high - low) * u ≡ high * u
  apart = (let z : high ≡ low + (high - low) = omega (arith, i.ordered) in sym (ap (λ x. x * u) z ∙ omega arith))

  small : low * u ≤ 2 ^ f
  small = (let z : low * u ≤ 2 ^ 36 * u = mul-le-mul_right u (omega (arith, i.ordered, i.most)) in omega (arith, z, whole))

  eighth_least : 2 ^ f ≤ 8 * (low * u)
  eighth_least = (let z : 2 ^ 36 * u ≤ 8 * low * u = mul-le-mul_right u i.least in omega (arith, z, whole))

  least : low * u * (1 * 2 ^ f + d.lo + (d.hi - d.lo)) ≤ 2 ^ f * 2 ^ f
  unfolding u
  least = rw wide i.under

  most : 2 ^ f * 2 ^ f ≤ (low * u + (high - low) * u) * (1 * 2 ^ f + d.lo)
  unfolding u
  most = rw apart i.over

  pub parts_over : 0 < m.lo → m.lo ≤ m.hi → (mean first step : ℕ) → m.hi ≤ mean * coarse_unit f → first ≡ mean * high / 2 ^ 36 + 1 → step ≡ 2 ^ 36 - low + 8 * (high - low)
      → AreOver f m d (record { first = first; step = step })
  unfolding u
  parts_over p mo mean first step h e k = record {
    places = l;
    positive = p;
    mean = mo;
    excess = o;
    first = (let a : mean * high < 2 ^ 36 * first = rw e (lt-mul-div-succ (mean * high) (lit< tt)) in
        let b : mean * high * (u * u) ≤ 2 ^ 36 * first * (u * u) = mul-le-mul_right (u * u) (omega (arith, a)) in
        let c : m.hi * (high * u) ≤ mean * u * (high * u) = mul-le-mul_right (high * u) h in
        let x : 2 ^ f * (first * u) ≡ 2 ^ 36 * first * (u * u) = ap (λ y. y * (first * u)) whole ∙ omega arith in
        first_high (2 ^ f) m.hi (high * u) (1 * 2 ^ f + d.lo) (first * u) (pow_pos f) i.over (omega (arith, b, c, x)));
    step = (let h = step_high (2 ^ f) (1 * 2 ^ f + d.lo) (d.hi - d.lo) (low * u) ((high - low) * u) eighth_least small least most in
        let z : 1 * 2 ^ f + d.lo + (d.hi - d.lo) - 2 ^ f ≡ d.hi = omega (arith, o) in
        let y : 2 ^ 36 ≡ (2 ^ 36 - low) + low = omega (arith, i.ordered, i.most) in
        let x : 2 ^ f ≡ (2 ^ 36 - low) * u + low * u = whole ∙ ap (λ q. q * u) y ∙ omega arith in
        let t : step * u ≡ 2 ^ f - low * u + 8 * ((high - low) * u) = (let g : step * u ≡ (2 ^ 36 - low) * u + 8 * ((high - low) * u) = ap (λ q. q * u) k ∙ omega arith in omega (arith, g, x)) in
        rw t (rw z at h));
  }

  pub parts_under : (mean first step : ℕ) → mean * coarse_unit f ≤ m.lo → first ≡ mean * low / 2 ^ 36 → step ≡ 2 ^ 36 - high - 8 * (high - low) → AreUnder f m d (record { first = first; step = step })
  unfolding u
  parts_under mean first step h e k = record {
    first = (let a : first * 2 ^ 36 ≤ mean * low = rw e (div-mul-le_self (mean * low) (2 ^ 36)) in
        let b : first * 2 ^ 36 * (u * u) ≤ mean * low * (u * u) = mul-le-mul_right (u * u) a in
        let c : mean * u * (low * u) ≤ m.lo * (low * u) = mul-le-mul_right (low * u) h in
        let x : first * u * 2 ^ f ≡ first * 2 ^ 36 * (u * u) = ap (λ y. first * u * y) whole ∙ omega arith in
        first_low (2 ^ f) m.lo (low * u) (1 * 2 ^ f + d.hi) (first * u) (pow_pos f) i.under (omega (arith, b, c, x)));
    step = (let h = step_low (2 ^ f) (1 * 2 ^ f + d.lo) (d.hi - d.lo) (low * u) ((high - low) * u) eighth_least least most in
        let z : 1 * 2 ^ f + d.lo - 2 ^ f ≡ d.lo = omega arith in
        let y : step ≡ 2 ^ 36 - (high + 8 * (high - low)) = omega (arith, k) in
        let g : u * step ≡ u * 2 ^ 36 - u * (high + 8 * (high - low)) = ap (λ q. u * q) y ∙ mul-sub u (2 ^ 36) (high + 8 * (high - low)) in
        let t : step * u ≡ 2 ^ f - (low * u + (high - low) * u) - 8 * ((high - low) * u) = (let j : u * (high + 8 * (high - low)) ≡ high * u + 8 * ((high - low) * u) = omega arith in omega (arith, g, j, whole, apart)) in
        let h2 : (2 ^ f - (low * u + (high - low) * u) - 8 * ((high - low) * u)) * (1 * 2 ^ f + d.lo + (d.hi - d.lo)) ≤ d.lo * 2 ^ f = rw z at h in
        rw t (subst (λ q. (2 ^ f - (low * u + (high - low) * u) - 8 * ((high - low) * u)) * q ≤ d.lo * 2 ^ f) wide h2));
  }

-- the pivot is 0 where the mean is less than 1 above the excess
pivot_none : (f : ℕ) (m d : Ends) → m.lo < 2 ^ f + d.hi → pivot_at f m d ≡ 0
unfolding pivot_at
pivot_none f m d h = div-eq_of_lt {n = m.lo - d.hi} {m = 2 ^ f} (omega (arith, h, pow_pos f))

-- and so where the first ratio is below 1
pub pivot_first : (f : ℕ) (m d : Ends) (over : Rising) → AreOver f m d over → over.first < 2 ^ 36 → pivot_at f m d ≡ 0
pivot_first f m d over h l =
    let u = coarse_unit f in
    let w : 2 ^ f ≡ 2 ^ 36 * u = places f h.places in
    let n : (over.first + 1) * u ≤ 2 ^ 36 * u = mul-le-mul_right u (omega (arith, l)) in
    let b : (over.first + 1) * u * (1 * 2 ^ f + d.lo) ≤ 2 ^ f * (1 * 2 ^ f + d.lo) = mul-le-mul_right (1 * 2 ^ f + d.lo) (omega (arith, n, w)) in
    let q : 0 < u * (1 * 2 ^ f + d.lo) = mul-pos {m = u} {n = 1 * 2 ^ f + d.lo} (pow_pos (f - 36)) (omega (arith, pow_pos f)) in
    let c : m.hi < 1 * 2 ^ f + d.lo = lt_of_mul-lt-mul_right (2 ^ f) (omega (arith, b, q, h.first)) in
    pivot_none f m d (omega (arith, c, h.mean, h.excess))

-- a mean that is above 0 in units of 36 places
pub positive_mean : (f : ℕ) (m : Ends) (mean : Coarse) → IsCoarse f m mean → 0 < mean.lo → 0 < m.lo
positive_mean f m mean h p = (let a : 0 < mean.lo * coarse_unit f = mul-pos {m = mean.lo} {n = coarse_unit f} p (pow_pos (f - 36)) in omega (arith, a, h.low))

-- the parts of ratios from both sides
pub parts_are : (f : ℕ) (m v : Ends) (mean : Coarse) (low high first step under_first under_step : ℕ) → 46 ≤ f → 0 < m.lo → m.lo ≤ m.hi → v.lo ≤ v.hi → IsCoarse f m mean
    → IsInverse f (excess_ends f m v) low high → first ≡ mean.hi * high / 2 ^ 36 + 1 → step ≡ 2 ^ 36 - low + 8 * (high - low) → under_first ≡ mean.lo * low / 2 ^ 36
    → under_step ≡ 2 ^ 36 - high - 8 * (high - low)
    → AreOver f m (excess_ends f m v) (record { first = first; step = step }) × AreUnder f m (excess_ends f m v) (record { first = under_first; step = under_step })
parts_are f m v mean low high first step under_first under_step n p o q h i ea eb ec ed =
    let e : (excess_ends f m v).lo ≤ (excess_ends f m v).hi = excess_ordered f m v p o q in
    (parts_over f m (excess_ends f m v) low high n e i p o mean.hi first step h.high ea eb, parts_under f m (excess_ends f m v) low high n e i mean.lo under_first under_step h.low ec ed)
