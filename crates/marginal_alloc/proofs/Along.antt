-- Costs rise along a curve, and lower ends fall.
use Rattle.std.proofs.Common.{◌≡◌, ℕ, zero, suc, ◌+◌, ◌<◌, ◌≤◌, ◌⊎◌, inl, inr, List, length, sym, subst, arith}
use Rattle.hull.specs.declared.point.Point.{Point}
use Rattle.hull.specs.Curves.{Steps, IsChain, IsShape, nowhere, point_at}
use Rattle.hull.proofs.Public.{among_at}
use Rattle.step_walk.proofs.Public.{own_step}

up_or : (k j : ℕ) → k ≤ suc j → (k ≡ suc j) ⊎ (k ≤ j)
up_or k j l = grind arith

next_step : (c : List Point) → IsChain c → (j : ℕ) → suc j < length c → Steps (point_at c j) (point_at c (suc j))
next_step c h j b = subst (λ i. Steps (point_at c j) (point_at c i)) (let e : j + 1 ≡ suc j = omega arith in e) (own_step c h j (omega (arith, b)))

-- along a chain a later point costs no less
pub costs_up : (c : List Point) → IsChain c → (k j : ℕ) → k ≤ j → j < length c → (point_at c k).cost ≤ (point_at c j).cost
costs_up c h k zero l b = subst (λ z. (point_at c z).cost ≤ (point_at c zero).cost) (let e : 0 ≡ k = omega (arith, l) in e) (omega arith)
costs_up c h k (suc j) l b = elim (up_or k j l) [
  | inl e ↦ subst (λ z. (point_at c z).cost ≤ (point_at c (suc j)).cost) (sym e) (omega arith)
  | inr m ↦ (
      let more : (point_at c k).cost ≤ (point_at c j).cost = costs_up c h k j m (omega (arith, b)) in
      let r = (next_step c h j b).cost in
      omega (arith, more, r))
]

pub los_down : (c : List Point) → IsChain c → (k j : ℕ) → k ≤ j → j < length c → (point_at c j).lo ≤ (point_at c k).lo
los_down c h k zero l b = subst (λ z. (point_at c zero).lo ≤ (point_at c z).lo) (let e : 0 ≡ k = omega (arith, l) in e) (omega arith)
los_down c h k (suc j) l b = elim (up_or k j l) [
  | inl e ↦ subst (λ z. (point_at c (suc j)).lo ≤ (point_at c z).lo) (sym e) (omega arith)
  | inr m ↦ (
      let more : (point_at c j).lo ≤ (point_at c k).lo = los_down c h k j m (omega (arith, b)) in
      let r = (next_step c h j b).lo in
      omega (arith, more, r))
]

-- no upper end up to a place is below the lower end there
pub lo_below : (c : List Point) → IsShape c → (k j : ℕ) → k ≤ j → j < length c → (point_at c j).lo ≤ (point_at c k).hi
lo_below c shape k j l b =
    let fall = los_down c shape.chain k j l b in
    let ends = (shape.ranges (point_at c k) (among_at c k nowhere (omega (arith, l, b)))).ends in
    omega (arith, fall, ends)
