-- The critical vertex, and what a filling of the choice keeps.
use Rattle.std.proofs.Common.{◌≡◌, ℕ, ◌+◌, ◌-◌, ◌*◌, ◌<◌, ◌≤◌, Some, List, length, set, slice_index, sym, ap, ◌∙◌, subst, arith, length-set}
use Rattle.hull.specs.declared.point.Point.{Point}
use Rattle.hull.specs.declared.price.Price.{Price}
use Rattle.hull.specs.Curves.{Steps, IsLeastAt}
use Rattle.marginal_alloc.specs.declared.allocation.Critical.{Critical}
use Rattle.price_bounds.specs.Sums.{hi_of}
use Rattle.step_walk.specs.Prefix.{curve_at, vertex_at, fall, rise, picked, IsPrefix, IsNext, HaveShapes}
use Rattle.marginal_alloc.specs.Choice.{IsHullChoice, AreCurves}
use Rattle.marginal_alloc.specs.Filling.{Fills, full, change}
use Rattle.marginal_alloc.proofs.Told.{told}
use Rattle.marginal_alloc.proofs.Least.{critical_least}
use Rattle.step_walk.proofs.Public.{own_step, rises_at}
use Rattle.marginal_alloc.proofs.Filled.{hi_falls}

-- at the price of a step its two ends have the same lagrangian
even : (a b c d : ℕ) → b < a → c < d → (d - c) * b + (a - b) * d ≡ (d - c) * a + (a - b) * c
even a b c d l m = by_steps (a - b) (d - c) (omega (arith, l)) (omega (arith, m))
  where
    by_steps : (p q : ℕ) → b + p ≡ a → c + q ≡ d → q * b + p * d ≡ q * a + p * c
    by_steps p q h k =
        let i = ap (λ x. q * x) h in
        let j = ap (λ x. p * x) k in
        omega (arith, i, j)

-- the upper ends together don't rise
pub filled_hi : {curves : List (List Point)} {budget : ℕ} {picks end : List ℕ} → Fills curves budget picks end → length picks ≡ length curves → hi_of (picked curves end) ≤ hi_of (picked curves picks)
filled_hi (full h) n = omega arith
filled_hi {curves = curves} {picks = picks} {end = end} (change f k b more) n =
    let rest : hi_of (picked curves end) ≤ hi_of (picked curves (set picks f k)) = filled_hi more (length-set picks f k ∙ n) in
    let here = hi_falls curves picks f k b.change.family n b.change.lower in
    omega (arith, rest, here)

module _ (families curves : List (List Point)) (budget : ℕ) (picks : List ℕ) (cost : ℕ) (price : Price) (areas : AreCurves families curves) (shapes : HaveShapes curves) where
  -- no point of its family has a smaller Lagrangian at the price than the critical vertex
  pub critical_vertex_least : (c : Critical) → IsHullChoice curves budget (told picks cost price (Some c)) → IsLeastAt price.p price.q (curve_at families c.family) (vertex_at curves c.family c.vertex)
  critical_vertex_least c h =
      let s = h.stops in
      subst (λ x. IsLeastAt x price.q (curve_at families c.family) (vertex_at curves c.family c.vertex)) (sym s.2)
      (subst (λ x. IsLeastAt (fall curves c.family (slice_index picks c.family)) x (curve_at families c.family) (vertex_at curves c.family c.vertex)) (sym s.3)
      (subst (λ x. IsLeastAt (fall curves c.family (slice_index picks c.family)) (rise curves c.family (slice_index picks c.family)) (curve_at families c.family) (vertex_at curves c.family x)) (sym s.1)
      (reached c.family h.prefix s.0)))
    where
      reached : (f : ℕ) → IsPrefix curves picks → IsNext curves picks f → IsLeastAt (fall curves f (slice_index picks f)) (rise curves f (slice_index picks f)) (curve_at families f) (vertex_at curves f (slice_index picks f + 1))
      reached f pre next w m =
          let fam = next.step.family in
          let chain = (shapes f fam).chain in
          let step : Steps (vertex_at curves f (slice_index picks f)) (vertex_at curves f (slice_index picks f + 1)) = own_step (curve_at curves f) chain (slice_index picks f) next.step.place in
          let own = critical_least curves picks f pre next (rises_at curves f (slice_index picks f) chain next.step) f fam (curve_at families f) chain (areas.each f fam) w m in
          let e = even (vertex_at curves f (slice_index picks f)).lo (vertex_at curves f (slice_index picks f + 1)).lo (vertex_at curves f (slice_index picks f)).cost (vertex_at curves f (slice_index picks f + 1)).cost step.lo step.cost in
          omega (arith, own, e)
