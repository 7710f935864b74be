-- At the price of the critical step each family's pick is least.
use Rattle.std.proofs.Common.{◌≡◌, ℕ, zero, suc, ◌+◌, ◌-◌, ◌*◌, ◌<◌, ◌≤◌, inl, inr, List, [], ◌∷◌, length, slice_index, sym, subst, arith}
use Rattle.hull.specs.declared.point.Point.{Point}
use Rattle.hull.specs.Curves.{IsChain, IsCurve, StopsAt, IsLeastAt, nowhere, point_at}
use Rattle.hull.proofs.Public.{least_at_stop, least_of_all}
use Rattle.step_walk.specs.Prefix.{curve_at, vertex_at, fall, rise, IsPrefix, IsNext}
use Rattle.step_walk.proofs.Public.{own_fall, own_rise, before_is_steeper}

-- a price stops a chain by what it says of each step
pub stops_by_steps : (p q : ℕ) (c : List Point) (m : ℕ) → m < length c → ((k : ℕ) → k < m → p * own_rise c k ≤ own_fall c k * q) → (m + 1 < length c → own_fall c m * q ≤ p * own_rise c m) → StopsAt p q c m
stops_by_steps p q [] m b h n = absurd (let l : m < 0 = b in omega arith)
stops_by_steps p q (v ∷ []) zero b h n = tt
stops_by_steps p q (v ∷ []) (suc m) b h n = absurd (let l : suc m < 1 = b in omega arith)
stops_by_steps p q (v ∷ w ∷ c) zero b h n = n (let l : 0 + 1 < suc (suc (length c)) = omega arith in l)
stops_by_steps p q (v ∷ w ∷ c) (suc m) b h n = (
  h zero (omega arith),
  stops_by_steps p q (w ∷ c) m (omega arith) (λ k l. shifted k (h (suc k) (omega arith))) (λ l. last m (n (omega arith))),
)
  where
    one_more : (k : ℕ) → suc k + 1 ≡ suc (k + 1)
    one_more k = omega arith

    shifted : (k : ℕ) → p * own_rise (v ∷ w ∷ c) (suc k) ≤ own_fall (v ∷ w ∷ c) (suc k) * q → p * own_rise (w ∷ c) k ≤ own_fall (w ∷ c) k * q
    shifted k h = subst (λ i. p * ((point_at (v ∷ w ∷ c) i).cost - (point_at (w ∷ c) k).cost) ≤ ((point_at (w ∷ c) k).lo - (point_at (v ∷ w ∷ c) i).lo) * q) (one_more k) h

    last : (k : ℕ) → own_fall (v ∷ w ∷ c) (suc k) * q ≤ p * own_rise (v ∷ w ∷ c) (suc k) → own_fall (w ∷ c) k * q ≤ p * own_rise (w ∷ c) k
    last k h = subst (λ i. ((point_at (w ∷ c) k).lo - (point_at (v ∷ w ∷ c) i).lo) * q ≤ p * ((point_at (v ∷ w ∷ c) i).cost - (point_at (w ∷ c) k).cost)) (one_more k) h

-- the critical price stops each curve at its pick
pub critical_stops : (curves : List (List Point)) (picks : List ℕ) (f : ℕ) → IsPrefix curves picks → IsNext curves picks f → (g : ℕ) → g < length curves
    → StopsAt (fall curves f (slice_index picks f)) (rise curves f (slice_index picks f)) (curve_at curves g) (slice_index picks g)
critical_stops curves picks f pre next g b =
    stops_by_steps (fall curves f (slice_index picks f)) (rise curves f (slice_index picks f)) (curve_at curves g) (slice_index picks g) (pre.vertices.below g b)
    (λ k l. (
    let in_place = pre.vertices.below g b in
    before_is_steeper curves g k f (slice_index picks f) (pre.before g k f (slice_index picks f) (record { family = b; place = omega (arith, in_place, l) }) next.step l (omega arith))))
    (λ l. elim (next.first g (slice_index picks g) (record { family = b; place = l }) (omega arith)) [
      | inl e ↦ same g e.0
      | inr h ↦ before_is_steeper curves f (slice_index picks f) g (slice_index picks g) h
    ])
  where
    same : (g : ℕ) → g ≡ f → fall curves g (slice_index picks g) * rise curves f (slice_index picks f) ≤ fall curves f (slice_index picks f) * rise curves g (slice_index picks g)
    same g e = subst (λ z. fall curves z (slice_index picks z) * rise curves f (slice_index picks f) ≤ fall curves f (slice_index picks f) * rise curves z (slice_index picks z)) (sym e) (omega arith)

-- so it is least of all the points of the family
pub critical_least : (curves : List (List Point)) (picks : List ℕ) (f : ℕ) → IsPrefix curves picks → IsNext curves picks f → 0 < rise curves f (slice_index picks f) → (g : ℕ) → g < length curves → (points : List Point) → IsChain (curve_at curves g) → IsCurve points (curve_at curves g)
    → IsLeastAt (fall curves f (slice_index picks f)) (rise curves f (slice_index picks f)) points (vertex_at curves g (slice_index picks g))
critical_least curves picks f pre next pos g b points chain curve =
    least_of_all (fall curves f (slice_index picks f)) (rise curves f (slice_index picks f)) points (curve_at curves g) pos curve (vertex_at curves g (slice_index picks g))
    (least_at_stop (fall curves f (slice_index picks f)) (rise curves f (slice_index picks f)) (curve_at curves g) (slice_index picks g) nowhere pos chain (critical_stops curves picks f pre next g b))
