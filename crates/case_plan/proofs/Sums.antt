-- Sums and lists over the picks of all families.
use Rattle.std.proofs.Common.{◌≡◌, ℕ, zero, suc, ◌+◌, ◌-◌, ◌*◌, ◌^◌, ◌<◌, ◌≤◌, List, [], ◌∷◌, ◌++◌, map, length, slice_index, refl, sym, ap, ◌∙◌, arith}
use Rattle.std.proofs.Math.Nat.{mul-le-mul_right}
use Rattle.std.proofs.Math.Numerals.{add-one}
use Rattle.hull.specs.declared.point.Point.{Point}
use Rattle.hull.specs.Curves.{lagrangian, InRange}
use Rattle.price_bounds.specs.Sums.{total}
use Rattle.step_walk.specs.Prefix.{vertex_at, picked}
use Rattle.case_plan.specs.Parts.{part, parts}

part_front : (g : Point → ℕ) (c : List Point) (cs : List (List Point)) (k : ℕ) (ks : List ℕ) (i : ℕ) → part g (c ∷ cs) (k ∷ ks) (suc i) ≡ g (vertex_at (c ∷ cs) 0 k) + part g cs ks i
part_front g c cs k ks zero = omega arith
part_front g c cs k ks (suc i) = (let r = part_front g c cs k ks i in omega (arith, r))

-- the sum over the picks of all families is the total of the picked points
pub part_all : (g : Point → ℕ) (curves : List (List Point)) (picks : List ℕ) (n : ℕ) → n ≡ length curves → length picks ≡ length curves → part g curves picks n ≡ total g (picked curves picks)
part_all g [] picks zero e n = refl
part_all g [] picks (suc i) e n = absurd (omega arith)
part_all g (c ∷ cs) [] i e n = absurd (let l : 0 ≡ suc (length cs) = n in omega arith)
part_all g (c ∷ cs) (k ∷ ks) zero e n = absurd (let l : 0 ≡ suc (length cs) = e in omega arith)
part_all g (c ∷ cs) (k ∷ ks) (suc i) e n =
    part_front g c cs k ks i ∙ ap (λ z. g (vertex_at (c ∷ cs) 0 k) + z) (part_all g cs ks i (let l : suc i ≡ suc (length cs) = e in omega arith) (let l : suc (length ks) ≡ suc (length cs) = n in omega arith))

-- the pick of one family more adds its number to the sum
pub part_more : (g : Point → ℕ) (curves : List (List Point)) (picks : List ℕ) (i : ℕ) (v : Point) → v ≡ vertex_at curves i (slice_index picks i) → part g curves picks i + g v ≡ part g curves picks (i + 1)
part_more g curves picks i v e = ap (λ z. part g curves picks i + z) (ap g e) ∙ sym (ap (λ z. part g curves picks z) (add-one i))

-- the Lagrangian of a point in range
pub lagrangian_small : (p q : ℕ) (v : Point) → p ≤ 2 ^ 74 → q ≤ 1000000000000 → InRange v → (q * v.lo ≤ 1000000000000 * 2 ^ 74) × (p * v.cost ≤ 2 ^ 74 * 1000000000000) × (lagrangian p q v < 2 ^ 115)
lagrangian_small p q v a b r =
    let c = r.cost in let h = r.hi in let e = r.ends in
    let x : q * v.lo ≤ 1000000000000 * v.lo = mul-le-mul_right v.lo b in
    let y : p * v.cost ≤ 2 ^ 74 * v.cost = mul-le-mul_right v.cost a in
    (omega (arith, x, h, e), omega (arith, y, c), omega (arith, x, y, c, h, e))

parts_front : (g : Point → ℕ) (c : List Point) (cs : List (List Point)) (k : ℕ) (ks : List ℕ) (i : ℕ) → parts g (c ∷ cs) (k ∷ ks) (suc i) ≡ g (vertex_at (c ∷ cs) 0 k) ∷ parts g cs ks i
parts_front g c cs k ks zero = refl
parts_front g c cs k ks (suc i) = ap (λ z. z ++ g (vertex_at cs i (slice_index ks i)) ∷ []) (parts_front g c cs k ks i)

-- the list over the picks of all families is that of the picked points
pub parts_all : (g : Point → ℕ) (curves : List (List Point)) (picks : List ℕ) (n : ℕ) → n ≡ length curves → length picks ≡ length curves → parts g curves picks n ≡ map g (picked curves picks)
parts_all g [] picks zero e n = refl
parts_all g [] picks (suc i) e n = absurd (omega arith)
parts_all g (c ∷ cs) [] i e n = absurd (let l : 0 ≡ suc (length cs) = n in omega arith)
parts_all g (c ∷ cs) (k ∷ ks) zero e n = absurd (let l : 0 ≡ suc (length cs) = e in omega arith)
parts_all g (c ∷ cs) (k ∷ ks) (suc i) e n =
    parts_front g c cs k ks i ∙ ap (λ z. g (vertex_at (c ∷ cs) 0 k) ∷ z) (parts_all g cs ks i (let l : suc i ≡ suc (length cs) = e in omega arith) (let l : suc (length ks) ≡ suc (length cs) = n in omega arith))

-- ---- a step of the sums, over plain numbers

-- what is at most so much stays so where at most so much is added
pub both_more : (a b x y : ℕ) → a ≤ b → x ≤ y → a + x ≤ b + y
both_more a b x y h k = omega (arith, h, k)

-- the Lagrangians of one family more have room
pub lagrangians_room : (x y f : ℕ) → x ≤ f * 2 ^ 115 → y < 2 ^ 115 → x + y ≤ (f + 1) * 2 ^ 115
lagrangians_room x y f h k = omega (arith, h, k)

-- so have the widths
pub widths_room : (x y z f : ℕ) → x ≤ f * 2 ^ 74 → y < 2 ^ 74 → x + (y - z) ≤ (f + 1) * 2 ^ 74
widths_room x y z f h k = omega (arith, h, k)

-- the costs
pub costs_room : (x y f : ℕ) → x ≤ f * 1000000000000 → y ≤ 1000000000000 → x + y ≤ (f + 1) * 1000000000000
costs_room x y f h k = omega (arith, h, k)

-- and the ends
pub ends_room : (x y f : ℕ) → x ≤ f * 2 ^ 74 → y < 2 ^ 74 → x + y ≤ (f + 1) * 2 ^ 74
ends_room x y f h k = omega (arith, h, k)
