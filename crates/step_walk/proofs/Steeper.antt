-- Steps that fall by more than a price for each unit of money come first on a curve.
use Rattle.std.proofs.Common.{◌≡◌, ℕ, ◌+◌, ◌*◌, ◌<◌, ◌≤◌, ◌⊎◌, inl, inr, List, length, sym, subst, arith}
use Rattle.std.proofs.Math.Nat.{mul-le-mul_left, mul-lt-mul_of_pos_left, lt_of_mul-lt-mul_left}
use Rattle.hull.specs.declared.point.Point.{Point}
use Rattle.hull.specs.Curves.{IsChain, point_at}
use Rattle.step_walk.specs.Prefix.{curve_at, IsPrefix, HaveShapes}
use Rattle.step_walk.specs.Steep.{fall_at, rise_at, AreAfterSteep}
use Rattle.step_walk.proofs.Taking.{slopes_fall, rises_at}

-- f/r is steeper than g/s, which is steeper than p
steeper_yet : (p f r g s : ℕ) → g * r < f * s → p * s < g → p * r < f
steeper_yet p f r g s h k =
    let a : r * (p * s) ≤ r * g = mul-le-mul_left r (let i : p * s ≤ g = omega arith in i) in
    lt_of_mul-lt-mul_left s (let i : s * (p * r) < s * f = omega (arith, a, h) in i)

-- f/r is steeper than g/s, and no steeper than p
flatter_yet : (p f r g s : ℕ) → g * r < f * s → f ≤ p * r → g < p * s
flatter_yet p f r g s h k =
    let a : s * f ≤ s * (p * r) = mul-le-mul_left s k in
    lt_of_mul-lt-mul_left r (let i : r * g < r * (p * s) = omega (arith, a, h) in i)

module _ (p : ℕ) (c : List Point) (chain : IsChain c) (k : ℕ) (here : k + 1 < length c) where
  -- each step up to a steep one is steep
  pub steep_up_to : p * rise_at c k < fall_at c k → (i : ℕ) → i < k + 1 → p * rise_at c i < fall_at c i
  steep_up_to h i b = elim (last_or i k b) [
    | inl l ↦ steeper_yet p (fall_at c i) (rise_at c i) (fall_at c k) (rise_at c k) (slopes_fall c chain i k l here) h
    | inr e ↦ subst (λ z. p * rise_at c z < fall_at c z) (sym e) h
  ]
    where
      last_or : (i k : ℕ) → i < k + 1 → (i < k) ⊎ (i ≡ k)
      last_or i k h = grind arith

  -- each step from a flat one on is flat
  pub flat_from : fall_at c k ≤ p * rise_at c k → (i : ℕ) → k ≤ i → i + 1 < length c → fall_at c i ≤ p * rise_at c i
  flat_from h i b l = elim (first_or i k b) [
    | inl m ↦ (let f = flatter_yet p (fall_at c k) (rise_at c k) (fall_at c i) (rise_at c i) (slopes_fall c chain k i m l) h in omega (arith, f))
    | inr e ↦ subst (λ z. fall_at c z ≤ p * rise_at c z) (sym e) h
  ]
    where
      first_or : (i k : ℕ) → k ≤ i → (k < i) ⊎ (i ≡ k)
      first_or i k h = grind arith

-- what is read as the fall of a step is its fall
pub fall_read : (c : List Point) (k p : ℕ) → p + (point_at c (k + 1)).lo ≡ (point_at c k).lo → p ≡ fall_at c k
fall_read c k p h = omega (arith, h)

-- so it is with its rise
pub rise_read : (c : List Point) (k q : ℕ) → q + (point_at c k).cost ≡ (point_at c (k + 1)).cost → q ≡ rise_at c k
rise_read c k q h = omega (arith, h)

-- f/r is steeper than p, and g/s isn't
steep_first : (p f r g s : ℕ) → p * r < f → g ≤ p * s → 0 < s → g * r < f * s
steep_first p f r g s h k some =
    let a : r * g ≤ r * (p * s) = mul-le-mul_left r k in
    let b : s * (p * r) < s * f = mul-lt-mul_of_pos_left h some in
    omega (arith, a, b)

module _ (p : ℕ) (curves : List (List Point)) (picks : List ℕ) (after : AreAfterSteep p curves picks) where
  -- steps are told of curves
  pub shapes_after : HaveShapes curves
  shapes_after f b = (let s = (after.each f b).shape in record { some = s.some; chain = s.chain; ranges = s.ranges })

  -- the steep steps are a prefix of all
  pub prefix_after : IsPrefix curves picks
  prefix_after = record {
    vertices = record { count = after.count; below = λ f b. (after.each f b).below };
    before = λ f k g j one other taken left. inl (steep_first p
        (fall_at (curve_at curves f) k) (rise_at (curve_at curves f) k) (fall_at (curve_at curves g) j) (rise_at (curve_at curves g) j)
        ((after.each f one.family).steep k taken) ((after.each g other.family).flat j left other.place)
        (rises_at curves g j (after.each g other.family).shape.chain other));
  }
