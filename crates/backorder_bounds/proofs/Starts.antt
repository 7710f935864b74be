-- The weight at the stock 0, from the pivot down.
use Rattle.std.proofs.Common.{◌≡◌, ℕ, ◌+◌, ◌-◌, ◌*◌, ◌/◌, ◌<◌, ◌≤◌, ◌^◌, sym, ap, ◌∙◌, arith, lit<, pow_pos, le_trans, mul-le-mul, mul-le-mul_left, mul-le-mul_right, le_of_mul-le-mul_right}
use Rattle.std.specs.Int.{div_ceil}
use Rattle.std.proofs.Math.Nat.{div-mul-le_self, lt-mul-div-succ}
use Rattle.std.proofs.lemmas.Nat.{le-div}
use Rattle.list_laws.proofs.Public.{ceil_most}
use Rattle.fixed_interval.specs.Ends.{Ends}
use Rattle.series_bounds.specs.Profile.{back_ends, pivot_at, weight_ends}
use Rattle.series_bounds.proofs.Public.{weight_at_pivot, weight_down}
use Rattle.backorder_bounds.specs.declared.sums.Rising.{Rising}
use Rattle.backorder_bounds.specs.Coarse.{coarse_unit}
use Rattle.backorder_bounds.specs.Lead.{AreOver, AreUnder, IsStart}
use Rattle.backorder_bounds.proofs.Coarse.{places, product_high, product_low}
use Rattle.backorder_bounds.proofs.Reaches.{one_more}

-- the weight at the pivot, from both sides
pub at_pivot : (f : ℕ) (m d : Ends) (c : ℕ) → 46 ≤ f → pivot_at f m d ≡ c → (2 ^ 36 * coarse_unit f ≤ (weight_ends f m d c).lo) × ((weight_ends f m d c).hi ≤ 2 ^ 36 * coarse_unit f)
at_pivot f m d c n e =
    let w : 2 ^ f ≡ 2 ^ 36 * coarse_unit f = places f n in
    let l : (weight_ends f m d c).lo ≡ 1 * 2 ^ f = ap (λ x. (weight_ends f m d x).lo) (sym e) ∙ ap (λ (z : Ends). z.lo) (weight_at_pivot f m d) in
    let h : (weight_ends f m d c).hi ≡ 1 * 2 ^ f = ap (λ x. (weight_ends f m d x).hi) (sym e) ∙ ap (λ (z : Ends). z.hi) (weight_at_pivot f m d) in
    (omega (arith, l, w), omega (arith, h, w))

back_low : (o n den above x r : ℕ) → 0 < o → 0 < n → n * o ≤ above * den → r * above ≤ x * (o * o) → r * n ≤ den * x * o
back_low o n den above x r p q h k =
    let a : r * (n * o) ≤ r * (above * den) = mul-le-mul_left r h in
    let b : r * above * den ≤ x * (o * o) * den = mul-le-mul_right den k in
    le_of_mul-le-mul_right {m = r * n} {n = den * x * o} {k = o} (omega (arith, a, b)) p

back_high : (o n den below x r : ℕ) → 0 < o → below * den ≤ n * o → x * (o * o) ≤ r * below → den * x * o ≤ r * n
back_high o n den below x r p h k =
    let a : r * (below * den) ≤ r * (n * o) = mul-le-mul_left r h in
    let b : x * (o * o) * den ≤ r * below * den = mul-le-mul_right den k in
    le_of_mul-le-mul_right {m = den * x * o} {n = r * n} {k = o} (omega (arith, a, b)) p

-- a product of two numbers of 36 places, in units of f places
fine_product : (a b c u o : ℕ) → o ≡ 2 ^ 36 * u → (a * b ≤ c * 2 ^ 72 → (a * u) * (b * u) ≤ c * (o * o)) × (c * 2 ^ 72 ≤ a * b → c * (o * o) ≤ (a * u) * (b * u))
fine_product a b c u o e =
    let x : c * (o * o) ≡ c * 2 ^ 72 * (u * u) = ap (λ y. c * (y * y)) e ∙ omega arith in
    (λ h. omega (arith, x, mul-le-mul_right (u * u) h), λ h. omega (arith, x, mul-le-mul_right (u * u) h))

module _ (f : ℕ) (m d : Ends) (over under : Rising) (x : ℕ) (h : AreOver f m d over) (i : 0 < x) (l : x ≤ pivot_at f m d) where
  -- the weight before, from below
  pub down_low : (low r above next : ℕ) → above ≡ over.first + over.step * (x - 1) → r ≡ x * 2 ^ 72 / above → next ≡ low * r / 2 ^ 36 → low * coarse_unit f ≤ (weight_ends f m d x).lo
      → next * coarse_unit f ≤ (weight_ends f m d (x - 1)).lo
  unfolding back_ends
  down_low low r above next ea e en k =
      let u = coarse_unit f in
      let o : 2 ^ f ≡ 2 ^ 36 * u = places f h.places in
      let n = m.hi + d.hi * (x - 1) in
      let b = ((1 * 2 ^ f + d.lo) * x) * 2 ^ f / n in
      let w : (weight_ends f m d (x - 1)).lo ≡ (weight_ends f m d x).lo * b / 2 ^ f = ap (λ (y : Ends). y.lo) (weight_down f m d x i l) in
      let g : n * 2 ^ f ≤ above * u * (1 * 2 ^ f + d.lo) = (let z : above * u * (1 * 2 ^ f + d.lo) ≡ (over.first + over.step * (x - 1)) * u * (1 * 2 ^ f + d.lo) = ap (λ y. y * u * (1 * 2 ^ f + d.lo)) ea in
      omega (arith, z, h.first, mul-le-mul_right (x - 1) h.step)) in
      let q : 0 < n = omega (arith, h.positive, h.mean) in
      let s : r * above ≤ x * 2 ^ 72 = rw e (div-mul-le_self (x * 2 ^ 72) above) in
      let c : r * u * n ≤ (1 * 2 ^ f + d.lo) * x * 2 ^ f = back_low (2 ^ f) n (1 * 2 ^ f + d.lo) (above * u) x (r * u) (pow_pos f) q g ((fine_product r above x u (2 ^ f) o).0 s) in
      let t : r * u ≤ b = le-div (r * u) (((1 * 2 ^ f + d.lo) * x) * 2 ^ f) n q c in
      let y : (low * u) * (r * u) / 2 ^ f ≤ (weight_ends f m d x).lo * b / 2 ^ f =
      le-div ((low * u) * (r * u) / 2 ^ f) ((weight_ends f m d x).lo * b) (2 ^ f) (pow_pos f) (le_trans (div-mul-le_self ((low * u) * (r * u)) (2 ^ f)) (mul-le-mul k t)) in
      let z : next * u ≤ (low * u) * (r * u) / 2 ^ f = rw en (product_low low r u (2 ^ f) (pow_pos f) o) in
      rw w (le_trans z y)

  -- and from above
  pub down_high : AreUnder f m d under → (high r below next : ℕ) → 0 < below → below ≡ under.first + under.step * (x - 1) → r ≡ x * 2 ^ 72 / below → next ≡ high * (r + 1) / 2 ^ 36 + 1
      → (weight_ends f m d x).hi ≤ high * coarse_unit f → (weight_ends f m d (x - 1)).hi ≤ next * coarse_unit f
  unfolding back_ends
  down_high hu high r below next z eb e en k =
      let u = coarse_unit f in
      let o : 2 ^ f ≡ 2 ^ 36 * u = places f h.places in
      let n = m.lo + d.lo * (x - 1) in
      let b = div_ceil (((1 * 2 ^ f + d.hi) * x) * 2 ^ f) n in
      let w : (weight_ends f m d (x - 1)).hi ≡ div_ceil ((weight_ends f m d x).hi * b) (2 ^ f) = ap (λ (y : Ends). y.hi) (weight_down f m d x i l) in
      let g : below * u * (1 * 2 ^ f + d.hi) ≤ n * 2 ^ f = (let z : below * u * (1 * 2 ^ f + d.hi) ≡ (under.first + under.step * (x - 1)) * u * (1 * 2 ^ f + d.hi) = ap (λ y. y * u * (1 * 2 ^ f + d.hi)) eb in
      omega (arith, z, hu.first, mul-le-mul_right (x - 1) hu.step)) in
      let q : 0 < n = omega (arith, h.positive) in
      let y : x * 2 ^ 72 < below * (r + 1) = rw e (lt-mul-div-succ (x * 2 ^ 72) z) in
      let c : (1 * 2 ^ f + d.hi) * x * 2 ^ f ≤ (r + 1) * u * n = back_high (2 ^ f) n (1 * 2 ^ f + d.hi) (below * u) x ((r + 1) * u) (pow_pos f) g ((fine_product (r + 1) below x u (2 ^ f) o).1 (omega (arith, y))) in
      let t : b ≤ (r + 1) * u = ceil_most (((1 * 2 ^ f + d.hi) * x) * 2 ^ f) n ((r + 1) * u) q c in
      let v : high * (r + 1) < 2 ^ 36 * next = rw en (lt-mul-div-succ (high * (r + 1)) (lit< tt)) in
      rw w (le_trans (one_more ((weight_ends f m d x).hi * b) ((high * u) * ((r + 1) * u)) (2 ^ f) (pow_pos f) (mul-le-mul k t))
      (product_high high (r + 1) next u (2 ^ f) (pow_pos f) (pow_pos (f - 36)) o v))

-- at once
pub start_at_once : (f : ℕ) (m d : Ends) → 46 ≤ f → pivot_at f m d ≡ 0 → IsStart f m d (record { pivot = 0; low = 2 ^ 36; high = 2 ^ 36 })
start_at_once f m d n e = record {
  pivot = e;
  low = (at_pivot f m d 0 n e).0;
  high = (at_pivot f m d 0 n e).1;
}
