-- The bound of a price, over choices of one point for each family.
use Rattle.std.proofs.Common.{◌≡◌, ℕ, ◌+◌, ◌-◌, ◌*◌, ◌<◌, ◌≤◌, ◌⊎◌, inl, inr, List, [], ◌∷◌, ◌++◌, ap, arith}
use Rattle.std.proofs.Math.Nat.{mul-le-mul_left, le_of_mul-le-mul_left, le_refl}
use Rattle.hull.specs.declared.point.Point.{Point}
use Rattle.hull.specs.Curves.{lagrangian}
use Rattle.price_bounds.specs.Sums.{total, cost_of, lo_of, hi_of, width_of, Picks, AllLeast, bound_of, IsWithin}
use Rattle.price_bounds.proofs.Mixture.{mixed_at}

-- the lagrangian of all is that of their sums
pub lagrangian_of_all : (p q : ℕ) (vs : List Point) → total (lagrangian p q) vs ≡ q * lo_of vs + p * cost_of vs
lagrangian_of_all p q [] = omega arith
lagrangian_of_all p q (v ∷ vs) = omega (arith, lagrangian_of_all p q vs)

-- least points together have no greater lagrangian than others
pub least_together : (p q : ℕ) (families : List (List Point)) (vs ws : List Point) → AllLeast p q families vs → Picks families ws → total (lagrangian p q) vs ≤ total (lagrangian p q) ws
least_together p q [] [] [] a b = omega arith
least_together p q [] [] (w ∷ ws) a b = absurd b
least_together p q [] (v ∷ vs) ws a b = absurd a
least_together p q (x ∷ xs) [] ws a b = absurd a
least_together p q (x ∷ xs) (v ∷ vs) [] a b = absurd b
least_together p q (x ∷ xs) (v ∷ vs) (w ∷ ws) a b =
    let h = a.0 w b.0 in
    let k = least_together p q xs vs ws a.1 b.1 in
    omega (arith, h, k)

pub bound_high : (p q S B : ℕ) → 0 < q → S < q * (bound_of p q S B + 1) + p * B
bound_high p q S B h = omega arith

-- what is at most the bound of a price is, q times, at most what a choice is lagrangian without the budget's money
pub bound_step : (p q S B N l c : ℕ) → 0 < q → N ≤ bound_of p q S B → S ≤ q * l + p * c → q * N ≤ q * l + p * c - p * B
bound_step p q S B N l c h n s =
    let i : q * N ≤ q * bound_of p q S B = mul-le-mul_left q n in
    let j : q * bound_of p q S B ≤ S - p * B = low p q S B h in
    omega (arith, i, j, s)
  where
    low : (p q S B : ℕ) → 0 < q → q * bound_of p q S B ≤ S - p * B
    low p q S B h = omega arith

-- a bound that a price shows of a choice is at most its sum, where its cost is within the budget
pub fewer_step : (p q N l c B : ℕ) → 0 < q → q * N ≤ q * l + p * c - p * B → c ≤ B → N ≤ l
fewer_step p q N l c B h n s =
    let k : p * c ≤ p * B = mul-le-mul_left p s in
    let m : q * N ≤ q * l = omega (arith, k, n) in
    le_of_mul-le-mul_left m h

-- no choice within the budget has a lower sum than the bound
pub no_fewer : (p q budget : ℕ) (families : List (List Point)) (vs ws : List Point) → 0 < q → AllLeast p q families vs → Picks families ws → cost_of ws ≤ budget → bound_of p q (total (lagrangian p q) vs) budget ≤ lo_of ws
no_fewer p q budget families vs ws h a b c =
    let sum : ℕ = total (lagrangian p q) vs in
    let bound : ℕ = bound_of p q sum budget in
    let k = least_together p q families vs ws a b in
    let e = lagrangian_of_all p q ws in
    let most = bound_step p q sum budget bound (lo_of ws) (cost_of ws) h (le_refl bound) (omega (arith, k, e)) in
    fewer_step p q bound (lo_of ws) (cost_of ws) budget h most c

-- one point in another's place moves the sum of a choice by the difference of the two
pub swapped : (f : Point → ℕ) (front : List Point) (v u : Point) (back : List Point) → total f (front ++ u ∷ back) + f v ≡ total f (front ++ v ∷ back) + f u
swapped f [] v u back = omega arith
swapped f (x ∷ front) v u back = omega (arith, swapped f front v u back)

-- every lower end is at most its upper end
abbrev pub AreEnds : List Point → Type 0
AreEnds [] = Unit {0}
AreEnds (v ∷ vs) = (v.lo ≤ v.hi) × AreEnds vs

pub ends_add : (vs : List Point) → AreEnds vs → hi_of vs ≡ lo_of vs + width_of vs
ends_add [] h = omega arith
ends_add (v ∷ vs) h = (let a = h.0 in let k = ends_add vs h.1 in omega (arith, a, k))

ends_at : (front : List Point) (v : Point) (back : List Point) → AreEnds (front ++ v ∷ back) → v.lo ≤ v.hi
ends_at [] v back h = h.0
ends_at (x ∷ front) v back h = ends_at front v back h.1

-- Where v's step to u doesn't fit the budget, one of the two choices is within the bound and the rounding, whatever
-- the price.
pub no_price : (a b p q budget : ℕ) (front : List Point) (v u : Point) (back : List Point)
    → AreEnds (front ++ v ∷ back) → u.lo ≤ u.hi → u.lo + p ≡ v.lo → v.cost + q ≡ u.cost
    → cost_of (front ++ v ∷ back) ≤ budget → budget < cost_of (front ++ v ∷ back) + q
    → IsWithin a b (bound_of p q (total (lagrangian p q) (front ++ v ∷ back)) budget + (width_of (front ++ v ∷ back) + (u.hi - u.lo) + 1)) budget (front ++ v ∷ back)
    ⊎ IsWithin a b (bound_of p q (total (lagrangian p q) (front ++ v ∷ back)) budget + (width_of (front ++ v ∷ back) + (u.hi - u.lo) + 1)) budget (front ++ u ∷ back)
no_price a b p q budget front v u back ends end fall rise low high =
    let vs : List Point = front ++ v ∷ back in
    let N : ℕ = bound_of p q (total (lagrangian p q) vs) budget in
    let sum : hi_of vs ≡ lo_of vs + width_of vs = ends_add vs ends in
    let hi : hi_of (front ++ u ∷ back) + v.hi ≡ hi_of vs + u.hi = swapped (λ x. x.hi) front v u back in
    let cost : cost_of (front ++ u ∷ back) + v.cost ≡ cost_of vs + u.cost = swapped (λ x. x.cost) front v u back in
    let own : v.lo ≤ v.hi = ends_at front v back ends in
    let qpos : 0 < q = omega (arith, low, high) in
    let small : q * lo_of vs + p * cost_of vs < q * (N + 1) + p * budget = (let k = bound_high p q (total (lagrangian p q) vs) budget qpos in let e = lagrangian_of_all p q vs in omega (arith, k, e)) in
    let y : hi_of (front ++ u ∷ back) + p ≤ lo_of vs + width_of vs + (u.hi - u.lo) = omega (arith, sum, hi, own, end, fall) in
    let one : a * cost_of (front ++ u ∷ back) ≡ a * (cost_of vs + q) = ap (λ x. a * x) (let e : cost_of (front ++ u ∷ back) ≡ cost_of vs + q = omega (arith, cost, rise) in e) in
    let two : b * hi_of vs ≡ b * (lo_of vs + width_of vs) = ap (λ x. b * x) sum in
    elim (mixed_at a b budget q (cost_of vs) p (lo_of vs) (width_of vs) (u.hi - u.lo) N (hi_of (front ++ u ∷ back)) low high y small) [
      | inl k ↦ inl (omega (arith, k, two))
      | inr k ↦ inr (omega (arith, k, one))
    ]

-- Where every step is taken, at price 0.
pub no_price_at_end : (a b budget : ℕ) (vs : List Point) → AreEnds vs → cost_of vs ≤ budget → IsWithin a b (bound_of 0 1 (total (lagrangian 0 1) vs) budget + (width_of vs + 1)) budget vs
no_price_at_end a b budget vs ends low =
    let sum : hi_of vs ≡ lo_of vs + width_of vs = ends_add vs ends in
    let e : total (lagrangian 0 1) vs ≡ 1 * lo_of vs + 0 * cost_of vs = lagrangian_of_all 0 1 vs in
    let f : bound_of 0 1 (total (lagrangian 0 1) vs) budget ≡ lo_of vs = omega (arith, e) in
    let k : a * cost_of vs ≤ a * budget = mul-le-mul_left a low in
    let l : b * hi_of vs ≤ b * (bound_of 0 1 (total (lagrangian 0 1) vs) budget + (width_of vs + 1)) = mul-le-mul_left b (let i : hi_of vs ≤ bound_of 0 1 (total (lagrangian 0 1) vs) budget + (width_of vs + 1) = omega (arith, sum, f) in i) in
    omega (arith, k, l)

-- the gap, q times
pub gap_within : (p q budget hi : ℕ) (vs : List Point) → 0 < q → AreEnds vs → cost_of vs ≤ budget → hi ≤ hi_of vs
    → q * (hi - bound_of p q (total (lagrangian p q) vs) budget) ≤ p * (budget - cost_of vs) + q * (width_of vs + 1)
gap_within p q budget hi vs h ends low less =
    let N : ℕ = bound_of p q (total (lagrangian p q) vs) budget in
    let sum : hi_of vs ≡ lo_of vs + width_of vs = ends_add vs ends in
    let k : total (lagrangian p q) vs < q * (N + 1) + p * budget = bound_high p q (total (lagrangian p q) vs) budget h in
    let e : total (lagrangian p q) vs ≡ q * lo_of vs + p * cost_of vs = lagrangian_of_all p q vs in
    gap p q budget hi N (lo_of vs) (width_of vs) (cost_of vs) (budget - cost_of vs) (omega arith) (omega arith) (omega (arith, k, e))
  where
    gap : (p q B hi N L W C r : ℕ) → C + r ≡ B → hi ≤ L + W → q * L + p * C < q * (N + 1) + p * B → q * (hi - N) ≤ p * r + q * (W + 1)
    gap p q B hi N L W C r e less k = over (hi - N) (grind arith)
      where
        over : (g : ℕ) → (g ≡ 0) ⊎ (g + N ≡ hi) → q * g ≤ p * r + q * (W + 1)
        over g o = elim o [
          | inl z ↦ (let y : q * g ≡ q * 0 = ap (λ x. q * x) z in omega (arith, y))
          | inr z ↦ (
              let y : q * (g + N) ≤ q * (L + W) = mul-le-mul_left q (let i : g + N ≤ L + W = omega (arith, z, less) in i) in
              let x : p * (C + r) ≡ p * B = ap (λ x. p * x) e in
              omega (arith, y, x, k))
        ]
