-- A walk under a budget.
use Rattle.std.proofs.Common.{◌≡◌, ℕ, zero, suc, ◌+◌, ◌-◌, ◌<◌, ◌≤◌, Some, None, List, [], ◌∷◌, length, set, slice_index, refl, sym, ap, ◌∙◌, subst, arith}
use Rattle.hull.specs.declared.point.Point.{Point}
use Rattle.hull.specs.Curves.{point_at}
use Rattle.step_walk.specs.declared.walk.Next.{Next}
use Rattle.step_walk.specs.Prefix.{vertex_at, rise, picked, HaveShapes}
use Rattle.step_walk.specs.Walks.{AllDone, IsOnWay, Walked, TellsFirst, MovesOn}
use Rattle.step_walk.proofs.Public.{cost_rises, steps_left, left_falls}
use Rattle.price_bounds.specs.Sums.{cost_of}
use Rattle.marginal_alloc.specs.Choice.{firsts, IsHullChoice}

-- what the picks cost with one step more
pub cost_taken : (curves : List (List Point)) (picks : List ℕ) (f : ℕ) → f < length curves → length picks ≡ length curves → (vertex_at curves f (slice_index picks f)).cost ≤ (vertex_at curves f (slice_index picks f + 1)).cost
    → cost_of (picked curves (set picks f (slice_index picks f + 1))) ≡ cost_of (picked curves picks) + rise curves f (slice_index picks f)
cost_taken [] picks f b n h = absurd (let l : f < 0 = b in omega arith)
cost_taken (c ∷ curves) [] f b n h = absurd (let l : 0 ≡ suc (length curves) = n in omega arith)
cost_taken (c ∷ curves) (k ∷ picks) zero b n h = omega (arith, h)
cost_taken (c ∷ curves) (k ∷ picks) (suc f) b n h = (let r = cost_taken curves picks f (omega arith) (let l : suc (length picks) ≡ suc (length curves) = n in omega arith) h in omega (arith, r))

-- picks at the first vertices
pub firsts_at : (curves : List (List Point)) (picks : List ℕ) → length picks ≡ length curves → ((f : ℕ) → slice_index picks f ≡ 0) → picked curves picks ≡ firsts curves
firsts_at [] picks n z = refl
firsts_at (c ∷ curves) [] n z = absurd (let l : 0 ≡ suc (length curves) = n in omega arith)
firsts_at (c ∷ curves) (k ∷ picks) n z =
    let r = firsts_at curves picks (let l : suc (length picks) ≡ suc (length curves) = n in omega arith) (λ f. z (suc f)) in
    let e : k ≡ 0 = z zero in
    ap (λ x. point_at c x ∷ picked curves picks) e ∙ ap (λ (vs : List Point). point_at c 0 ∷ vs) r

-- the first vertices cost nothing where that of each curve costs nothing
pub free_firsts : (curves : List (List Point)) → ((f : ℕ) → f < length curves → (vertex_at curves f 0).cost ≡ 0) → cost_of (firsts curves) ≡ 0
free_firsts [] h = refl
free_firsts (c ∷ curves) h =
    let r = free_firsts curves (λ f b. h (suc f) (omega arith)) in
    let g : (point_at c 0).cost ≡ 0 = h zero (omega arith) in
    omega (arith, r, g)

-- what one step more says
pub record Stepped (curves : List (List Point)) (picks : List ℕ) (new : Walked) (cost : ℕ) : Type 0 where
  pub same : new.curves ≡ curves
  pub cost_is : cost ≡ cost_of (picked curves new.picks)
  pub smaller : steps_left curves new.picks < steps_left curves picks

at_own : (curves : List (List Point)) (w : Walked) (next : Next) → w.curves ≡ curves → TellsFirst w next → TellsFirst (record { curves = curves; picks = w.picks }) next
at_own curves w next same t = subst (λ (cs : List (List Point)). TellsFirst (record { curves = cs; picks = w.picks }) next) same t

-- one step more adds its rise to the cost, and leaves fewer steps
pub stepped : (curves : List (List Point)) (old new : Walked) (next : Next) (cost : ℕ) → old.curves ≡ curves → TellsFirst old next → MovesOn old new
    → cost ≡ cost_of (picked curves old.picks) → Stepped curves old.picks new (cost + next.price.q)
stepped curves old new next cost same t on is =
    let own = at_own curves old next same t in
    let pre = own.way.prefix in
    let family = own.first.step.family in
    let count = pre.vertices.count in
    let more = cost_taken curves old.picks next.family family count (cost_rises curves next.family (slice_index old.picks next.family) (own.way.shapes next.family family).chain own.first.step) in
    let q = own.q in
    let are = on.picks next.family t.first in
    record {
      same = on.curves ∙ same;
      cost_is = subst (λ ks. cost + next.price.q ≡ cost_of (picked curves ks)) (sym are) (omega (arith, more, q, is));
      smaller = subst (λ ks. steps_left curves ks < steps_left curves old.picks) (sym are)
          (left_falls curves old.picks next.family family count (pre.vertices.below next.family family));
    }

-- the curves of a walk have shapes
pub shapes_own : (curves : List (List Point)) (w : Walked) → w.curves ≡ curves → IsOnWay w → HaveShapes curves
shapes_own curves w same way = subst HaveShapes same way.shapes

beyond : (budget cost q r : ℕ) → cost ≤ budget → budget - cost < q → q ≡ r → budget < cost + r
beyond budget cost q r fits over e = omega (arith, fits, over, e)

-- a walk that stops at a step beyond the budget has made the hull choice
pub stopped : (curves : List (List Point)) (w : Walked) (next : Next) (budget cost : ℕ) (picks : List ℕ) → w.curves ≡ curves → TellsFirst w next
    → cost ≡ cost_of (picked curves w.picks) → cost ≤ budget → budget - cost < next.price.q → picks ≡ w.picks
    → IsHullChoice curves budget (record { picks = picks; cost = cost; price = next.price; critical = Some (record { family = next.family; vertex = next.vertex }) })
stopped curves w next budget cost picks same t is fits over at =
    let own = at_own curves w next same t in
    subst (λ ks. IsHullChoice curves budget (record { picks = ks; cost = cost; price = next.price; critical = Some (record { family = next.family; vertex = next.vertex }) }))
    (sym at)
    (record { prefix = own.way.prefix; cost_is = is; fits = fits; stops = (own.first, own.vertex, own.p, own.q, beyond budget cost next.price.q _ fits over own.q) })

-- and so has one that has no step left
pub finished : (curves : List (List Point)) (w : Walked) (budget cost : ℕ) (picks : List ℕ) → w.curves ≡ curves → AllDone w
    → cost ≡ cost_of (picked curves w.picks) → cost ≤ budget → picks ≡ w.picks
    → IsHullChoice curves budget (record { picks = picks; cost = cost; price = record { p = 0; q = 1 }; critical = None })
finished curves w budget cost picks same done is fits at =
    let own = subst (λ (cs : List (List Point)). AllDone (record { curves = cs; picks = w.picks })) same done in
    subst (λ ks. IsHullChoice curves budget (record { picks = ks; cost = cost; price = record { p = 0; q = 1 }; critical = None })) (sym at)
    (record { prefix = own.way.prefix; cost_is = is; fits = fits; stops = (own.done, refl, refl) })
