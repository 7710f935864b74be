-- Where a price stops a chain, the Lagrangian is least.
use Rattle.std.proofs.Common.{◌≡◌, ℕ, zero, suc, ◌+◌, ◌-◌, ◌*◌, ◌<◌, ◌≤◌, inl, inr, List, [], ◌∷◌, get_or, refl, sym, ap, subst, arith}
use Rattle.list_laws.proofs.Public.{fractions_fall_on}
use Rattle.hull.specs.declared.point.Point.{Point}
use Rattle.hull.specs.Curves.{lagrangian, IsCurve, IsLeastAt, Steps, IsChain, StopsAt}
use Rattle.hull.proofs.Stand.{same_lagrangian}
use Rattle.hull.proofs.Prices.{LowVertex, low_vertex}
use Rattle.hull.proofs.Chains.{head_least}

step_up_weak : (p q vl vc wl wc : ℕ) → vc < wc → wl < vl → (vl - wl) * q ≤ p * (wc - vc) → q * vl + p * vc ≤ q * wl + p * wc
step_up_weak p q vl vc wl wc a b h = moved (vl - wl) (wc - vc) (omega arith) (omega arith) h
  where
    moved : (f d : ℕ) → f + wl ≡ vl → d + vc ≡ wc → f * q ≤ p * d → q * vl + p * vc ≤ q * wl + p * wc
    moved f d e g k =
        let x : q * (f + wl) ≡ q * vl = ap (λ t. q * t) e in
        let y : p * (d + vc) ≡ p * wc = ap (λ t. p * t) g in
        omega arith

step_down_weak : (p q vl vc wl wc : ℕ) → vc < wc → wl < vl → p * (wc - vc) ≤ (vl - wl) * q → q * wl + p * wc ≤ q * vl + p * vc
step_down_weak p q vl vc wl wc a b h = moved (vl - wl) (wc - vc) (omega arith) (omega arith) h
  where
    moved : (f d : ℕ) → f + wl ≡ vl → d + vc ≡ wc → p * d ≤ f * q → q * wl + p * wc ≤ q * vl + p * vc
    moved f d e g k =
        let x : q * (f + wl) ≡ q * vl = ap (λ t. q * t) e in
        let y : p * (d + vc) ≡ p * wc = ap (λ t. p * t) g in
        omega arith

head_stops : (p q : ℕ) (v : Point) (rest : List Point) → 0 < q → IsChain (v ∷ rest) → StopsAt p q (v ∷ rest) zero → IsLeastAt p q (v ∷ rest) v
head_stops p q v [] hq c s w m = elim m [ inl e ↦ subst (λ u. lagrangian p q v ≤ lagrangian p q u) (sym e) (omega arith) | inr n ↦ absurd n ]
head_stops p q v (x ∷ []) hq c s w m =
    let t : Steps v x = c.0 in
    elim m [
      | inl e ↦ subst (λ u. lagrangian p q v ≤ lagrangian p q u) (sym e) (omega arith)
      | inr n ↦ elim n [ inl e ↦ subst (λ u. lagrangian p q v ≤ lagrangian p q u) (sym e) (step_up_weak p q v.lo v.cost x.lo x.cost t.cost t.lo s) | inr k ↦ absurd k ]
    ]
head_stops p q v (x ∷ y ∷ rest) hq c s w m =
    let t : Steps v x = c.0 in
    let one : lagrangian p q v ≤ lagrangian p q x = step_up_weak p q v.lo v.cost x.lo x.cost t.cost t.lo s in
    let flat : (x.lo - y.lo) * q < p * (y.cost - x.cost) = fractions_fall_on p q (v.lo - x.lo) (x.cost - v.cost) (x.lo - y.lo) (y.cost - x.cost) c.1 s hq in
    elim m [
      | inl e ↦ subst (λ u. lagrangian p q v ≤ lagrangian p q u) (sym e) (omega arith)
      | inr n ↦ elim n [
        | inl e ↦ subst (λ u. lagrangian p q v ≤ lagrangian p q u) (sym e) one
        | inr k ↦ (let l = head_least p q x (y ∷ rest) hq c.2 flat w k in omega (arith, one, l))
      ]
    ]

-- where a price stops a chain, the point there has the least Lagrangian
pub least_at_stop : (p q : ℕ) (points : List Point) (k : ℕ) (d : Point) → 0 < q → IsChain points → StopsAt p q points k → IsLeastAt p q points (get_or points k d)
least_at_stop p q [] k d hq c s = absurd s
least_at_stop p q (v ∷ []) zero d hq c s = head_stops p q v [] hq c s
least_at_stop p q (v ∷ []) (suc k) d hq c s = absurd s
least_at_stop p q (v ∷ w ∷ rest) zero d hq c s = head_stops p q v (w ∷ rest) hq c s
least_at_stop p q (v ∷ w ∷ rest) (suc k) d hq c s =
    let t : Steps v w = c.0 in
    let down : lagrangian p q w ≤ lagrangian p q v = step_down_weak p q v.lo v.cost w.lo w.cost t.cost t.lo s.0 in
    let more : IsLeastAt p q (w ∷ rest) (get_or (w ∷ rest) k d) = least_at_stop p q (w ∷ rest) k d hq c.2 s.1 in
    λ u m. elim m [
      | inl e ↦ subst (λ y. lagrangian p q (get_or (w ∷ rest) k d) ≤ lagrangian p q y) (sym e) (let a = more w (inl refl) in omega (arith, a, down))
      | inr n ↦ more u n
    ]

-- what is least on a curve is least of all its points
pub least_of_all : (p q : ℕ) (points curve : List Point) → 0 < q → IsCurve points curve → (v : Point) → IsLeastAt p q curve v → IsLeastAt p q points v
least_of_all p q [] curve hq c v l w m = absurd m
least_of_all p q (x ∷ xs) curve hq c v l w m =
    let r : LowVertex p q (x ∷ xs) = low_vertex p q x xs hq in
    let k = c.complete r.one r.among r.vertex in
    let e : lagrangian p q k.0 ≡ lagrangian p q r.one = same_lagrangian p q k.2 in
    let a : lagrangian p q v ≤ lagrangian p q k.0 = l k.0 k.1 in
    elim (r.leads w m) [ inl b ↦ omega (arith, a, e, b) | inr b ↦ (let z = b.0 in omega (arith, a, e, z)) ]
