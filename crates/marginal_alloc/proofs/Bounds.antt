-- What the hull choice says of every choice and of every price.
use Rattle.std.proofs.Common.{◌≡◌, ℕ, zero, suc, ◌+◌, ◌-◌, ◌<◌, ◌≤◌, inl, inr, List, [], ◌∷◌, ◌++◌, Option, Some, None, length, set, slice_index, refl, sym, ap, subst, arith}
use Rattle.hull.specs.declared.point.Point.{Point}
use Rattle.hull.specs.declared.price.Price.{Price}
use Rattle.hull.specs.Curves.{lagrangian, Among, Steps, IsLeastAt, nowhere, point_at}
use Rattle.hull.proofs.Public.{least_at_stop, least_of_all, among_at}
use Rattle.marginal_alloc.specs.declared.allocation.Critical.{Critical}
use Rattle.price_bounds.specs.Sums.{total, cost_of, lo_of, width_of, Picks, AllLeast, bound_of, IsWithin}
use Rattle.step_walk.specs.Prefix.{curve_at, vertex_at, HasStep, fall, rise, picked, IsPrefix, IsNext, AllTaken, HaveShapes}
use Rattle.marginal_alloc.specs.Choice.{IsHullChoice, AreCurves, rounding_at}
use Rattle.marginal_alloc.proofs.Told.{told, bound_at}
use Rattle.price_bounds.proofs.Public.{AreEnds, no_fewer, no_price, no_price_at_end}
use Rattle.marginal_alloc.proofs.Least.{critical_least, stops_by_steps}
use Rattle.step_walk.proofs.Public.{own_step, taken_prefix}

-- Some choice of one point for each family is no dearer than a sum and the budget, where a unit of the upper end
-- costs b, and one of money a.
pub record HasChoice (families : List (List Point)) (a b sum budget : ℕ) : Type 0 where
  pub points : List Point
  pub picks : Picks families points
  pub within : IsWithin a b sum budget points

-- where the pick of each family has the least Lagrangian of its points, so have all picked points
pub all_least : (p q : ℕ) (families curves : List (List Point)) (picks : List ℕ) → length families ≡ length curves → length picks ≡ length curves
    → ((g : ℕ) → g < length curves → IsLeastAt p q (curve_at families g) (vertex_at curves g (slice_index picks g))) → AllLeast p q families (picked curves picks)
all_least p q [] [] picks e n h = tt
all_least p q [] (c ∷ cs) picks e n h = absurd (let l : 0 ≡ suc (length cs) = e in omega arith)
all_least p q (x ∷ xs) [] picks e n h = absurd (let l : suc (length xs) ≡ 0 = e in omega arith)
all_least p q (x ∷ xs) (c ∷ cs) [] e n h = absurd (let l : 0 ≡ suc (length cs) = n in omega arith)
all_least p q (x ∷ xs) (c ∷ cs) (k ∷ ks) e n h = (
  h zero (omega arith),
  all_least p q xs cs ks (let l : suc (length xs) ≡ suc (length cs) = e in omega arith) (let l : suc (length ks) ≡ suc (length cs) = n in omega arith) (λ g b. h (suc g) (omega arith)),
)

-- picks whose vertices are points of their families are one point of each
pub all_picked : (families curves : List (List Point)) (picks : List ℕ) → length families ≡ length curves → length picks ≡ length curves
    → ((g : ℕ) → g < length curves → Among (vertex_at curves g (slice_index picks g)) (curve_at families g)) → Picks families (picked curves picks)
all_picked [] [] picks e n h = tt
all_picked [] (c ∷ cs) picks e n h = absurd (let l : 0 ≡ suc (length cs) = e in omega arith)
all_picked (x ∷ xs) [] picks e n h = absurd (let l : suc (length xs) ≡ 0 = e in omega arith)
all_picked (x ∷ xs) (c ∷ cs) [] e n h = absurd (let l : 0 ≡ suc (length cs) = n in omega arith)
all_picked (x ∷ xs) (c ∷ cs) (k ∷ ks) e n h = (
  h zero (omega arith),
  all_picked xs cs ks (let l : suc (length xs) ≡ suc (length cs) = e in omega arith) (let l : suc (length ks) ≡ suc (length cs) = n in omega arith) (λ g b. h (suc g) (omega arith)),
)

pub all_ends : (curves : List (List Point)) (picks : List ℕ) → length picks ≡ length curves → ((g : ℕ) → g < length curves → (vertex_at curves g (slice_index picks g)).lo ≤ (vertex_at curves g (slice_index picks g)).hi) → AreEnds (picked curves picks)
all_ends [] picks n h = tt
all_ends (c ∷ cs) [] n h = tt
all_ends (c ∷ cs) (k ∷ ks) n h = (h zero (omega arith), all_ends cs ks (let l : suc (length ks) ≡ suc (length cs) = n in omega arith) (λ g b. h (suc g) (omega arith)))

-- the picks around one family
pub record Around (curves : List (List Point)) (picks : List ℕ) (f : ℕ) : Type 0 where
  pub front : List Point
  pub back : List Point
  pub here : picked curves picks ≡ front ++ vertex_at curves f (slice_index picks f) ∷ back
  pub moved : (k : ℕ) → picked curves (set picks f k) ≡ front ++ vertex_at curves f k ∷ back

-- the picks are those before a family, its vertex, and those after, to whichever vertex the family moves
pub around : (curves : List (List Point)) (picks : List ℕ) (f : ℕ) → f < length curves → length picks ≡ length curves → Around curves picks f
around [] picks f b n = absurd (let l : f < 0 = b in omega arith)
around (c ∷ cs) [] f b n = absurd (let l : 0 ≡ suc (length cs) = n in omega arith)
around (c ∷ cs) (k ∷ ks) zero b n = record { front = []; back = picked cs ks; here = refl; moved = λ j. refl }
around (c ∷ cs) (k ∷ ks) (suc f) b n =
    let r : Around cs ks f = around cs ks f (omega arith) (let l : suc (length ks) ≡ suc (length cs) = n in omega arith) in
    record {
      front = point_at c k ∷ r.front;
      back = r.back;
      here = ap (λ l. point_at c k ∷ l) r.here;
      moved = λ j. ap (λ l. point_at c k ∷ l) (r.moved j);
    }

module _ (families curves : List (List Point)) (budget : ℕ) (picks : List ℕ) (cost : ℕ) (price : Price) (areas : AreCurves families curves) (shapes : HaveShapes curves) where
  rises : (f k : ℕ) → HasStep curves f k → 0 < rise curves f k
  rises f k s = (let r : Steps (vertex_at curves f k) (vertex_at curves f (k + 1)) = own_step (curve_at curves f) (shapes f s.family).chain k s.place in let l = r.cost in omega (arith, l))

  -- at the end of a curve nothing is lower
  end_least : AllTaken curves picks → (g : ℕ) → g < length curves → IsLeastAt 0 1 (curve_at families g) (vertex_at curves g (slice_index picks g))
  end_least t g b =
      let at_end = t g b in
      least_of_all 0 1 (curve_at families g) (curve_at curves g) (omega arith) (areas.each g b) (vertex_at curves g (slice_index picks g))
      (least_at_stop 0 1 (curve_at curves g) (slice_index picks g) nowhere (omega arith) (shapes g b).chain
      (stops_by_steps 0 1 (curve_at curves g) (slice_index picks g) (omega (arith, at_end)) (λ k l. omega arith) (λ l. absurd (omega (arith, l, at_end)))))

  -- the price is positive in money, and each pick is least at it
  pub choice_least : (critical : Option Critical) → IsHullChoice curves budget (told picks cost price critical) → (0 < price.q) × AllLeast price.p price.q families (picked curves picks)
  choice_least None h =
      let s = h.stops in
      let q = s.2 in (
        omega (arith, q),
        subst (λ x. AllLeast x price.q families (picked curves picks)) (sym s.1)
            (subst (λ x. AllLeast 0 x families (picked curves picks)) (sym s.2) (all_least 0 1 families curves picks areas.count h.prefix.vertices.count (end_least s.0))),
      )
  choice_least (Some c) h =
      let s = h.stops in
      let pos : 0 < rise curves c.family (slice_index picks c.family) = rises c.family (slice_index picks c.family) s.0.step in (
        subst (λ x. 0 < x) (sym s.3) pos,
        subst (λ x. AllLeast x price.q families (picked curves picks)) (sym s.2)
            (subst (λ x. AllLeast (fall curves c.family (slice_index picks c.family)) x families (picked curves picks)) (sym s.3)
            (all_least (fall curves c.family (slice_index picks c.family)) (rise curves c.family (slice_index picks c.family)) families curves picks areas.count h.prefix.vertices.count
            (λ g b. critical_least curves picks c.family h.prefix s.0 pos g b (curve_at families g) (shapes g b).chain (areas.each g b)))),
      )

  -- No choice within the budget has a lower sum than the bound.
  pub choice_no_fewer : (critical : Option Critical) → IsHullChoice curves budget (told picks cost price critical) → (points : List Point) → Picks families points → cost_of points ≤ budget → bound_at curves budget picks price ≤ lo_of points
  choice_no_fewer critical h points k c =
      let l = choice_least critical h in
      no_fewer price.p price.q budget families (picked curves picks) points l.0 l.1 k c

  vertex_among : (f k : ℕ) → f < length curves → k < length (curve_at curves f) → Among (vertex_at curves f k) (curve_at families f)
  vertex_among f k b l = (areas.each f b).among (vertex_at curves f k) (among_at (curve_at curves f) k nowhere l)

  vertex_ends : (f k : ℕ) → f < length curves → k < length (curve_at curves f) → (vertex_at curves f k).lo ≤ (vertex_at curves f k).hi
  vertex_ends f k b l = ((shapes f b).ranges (vertex_at curves f k) (among_at (curve_at curves f) k nowhere l)).ends

  own_picks : IsPrefix curves picks → Picks families (picked curves picks)
  own_picks pre = all_picked families curves picks areas.count pre.vertices.count (λ g b. vertex_among g (slice_index picks g) b (pre.vertices.below g b))

  -- the lower end of each picked point is at most its upper end
  pub own_ends : IsPrefix curves picks → AreEnds (picked curves picks)
  own_ends pre = all_ends curves picks pre.vertices.count (λ g b. vertex_ends g (slice_index picks g) b (pre.vertices.below g b))

  -- No price gives a bound higher by more than the rounding.
  pub choice_no_price : (a b : ℕ) (critical : Option Critical) → IsHullChoice curves budget (told picks cost price critical) → HasChoice families a b (bound_at curves budget picks price + rounding_at curves picks critical) budget
  choice_no_price a b None h =
      let s = h.stops in
      let e = h.cost_is in let f = h.fits in
      record {
        points = picked curves picks;
        picks = own_picks h.prefix;
        within = subst (λ x. IsWithin a b (bound_of x price.q (total (lagrangian x price.q) (picked curves picks)) budget + (width_of (picked curves picks) + 1)) budget (picked curves picks)) (sym s.1)
            (subst (λ x. IsWithin a b (bound_of 0 x (total (lagrangian 0 x) (picked curves picks)) budget + (width_of (picked curves picks) + 1)) budget (picked curves picks)) (sym s.2)
            (no_price_at_end a b budget (picked curves picks) (own_ends h.prefix) (omega (arith, e, f))));
      }
  choice_no_price a b (Some c) h =
      let s = h.stops in
      let f = c.family in
      let pick : ℕ = slice_index picks c.family in
      let r : Around curves picks c.family = around curves picks c.family s.0.step.family h.prefix.vertices.count in
      let step : Steps (vertex_at curves c.family pick) (vertex_at curves c.family (pick + 1)) = own_step (curve_at curves c.family) (shapes c.family s.0.step.family).chain pick s.0.step.place in
      let sl = step.lo in let sc = step.cost in
      let e = h.cost_is in let fit = h.fits in let over = s.4 in
      let same : cost_of (picked curves picks) ≡ cost_of (r.front ++ vertex_at curves c.family pick ∷ r.back) = ap cost_of r.here in
      let two = no_price a b (fall curves c.family pick) (rise curves c.family pick) budget r.front (vertex_at curves c.family pick) (vertex_at curves c.family (pick + 1)) r.back
      (subst AreEnds r.here (own_ends h.prefix)) (vertex_ends c.family (pick + 1) s.0.step.family s.0.step.place) (omega (arith, sl)) (omega (arith, sc)) (omega (arith, e, fit, same)) (omega (arith, e, over, same)) in
      elim two [
        | inl k ↦ record { points = picked curves picks; picks = own_picks h.prefix; within = as_told c pick s.1 s.2 s.3 (r.front ++ vertex_at curves c.family pick ∷ r.back) r.here (picked curves picks) (r.front ++ vertex_at curves c.family pick ∷ r.back) r.here k }
        | inr k ↦ record {
          points = picked curves (set picks c.family (pick + 1));
          picks = taken_picks c.family h.prefix s.0;
          within = as_told c pick s.1 s.2 s.3 (r.front ++ vertex_at curves c.family pick ∷ r.back) r.here (picked curves (set picks c.family (pick + 1))) (r.front ++ vertex_at curves c.family (pick + 1) ∷ r.back) (r.moved (pick + 1)) k;
        }
      ]
    where
      as_told : (c : Critical) (pick : ℕ) → c.vertex ≡ pick + 1 → price.p ≡ fall curves c.family pick → price.q ≡ rise curves c.family pick → (vs : List Point) → picked curves picks ≡ vs → (zs ws : List Point) → zs ≡ ws
          → IsWithin a b (bound_of (fall curves c.family pick) (rise curves c.family pick) (total (lagrangian (fall curves c.family pick) (rise curves c.family pick)) vs) budget + (width_of vs + ((vertex_at curves c.family (pick + 1)).hi - (vertex_at curves c.family (pick + 1)).lo) + 1)) budget ws
          → IsWithin a b (bound_at curves budget picks price + rounding_at curves picks (Some c)) budget zs
      as_told c pick v p q vs here zs ws z k =
          subst (λ x. IsWithin a b (bound_of x price.q (total (lagrangian x price.q) (picked curves picks)) budget + (width_of (picked curves picks) + ((vertex_at curves c.family c.vertex).hi - (vertex_at curves c.family c.vertex).lo) + 1)) budget zs) (sym p)
          (subst (λ x. IsWithin a b (bound_of (fall curves c.family pick) x (total (lagrangian (fall curves c.family pick) x) (picked curves picks)) budget + (width_of (picked curves picks) + ((vertex_at curves c.family c.vertex).hi - (vertex_at curves c.family c.vertex).lo) + 1)) budget zs) (sym q)
          (subst (λ x. IsWithin a b (bound_of (fall curves c.family pick) (rise curves c.family pick) (total (lagrangian (fall curves c.family pick) (rise curves c.family pick)) (picked curves picks)) budget + (width_of (picked curves picks) + ((vertex_at curves c.family x).hi - (vertex_at curves c.family x).lo) + 1)) budget zs) (sym v)
          (subst (λ x. IsWithin a b (bound_of (fall curves c.family pick) (rise curves c.family pick) (total (lagrangian (fall curves c.family pick) (rise curves c.family pick)) x) budget + (width_of x + ((vertex_at curves c.family (pick + 1)).hi - (vertex_at curves c.family (pick + 1)).lo) + 1)) budget zs) (sym here)
          (subst (λ x. IsWithin a b (bound_of (fall curves c.family pick) (rise curves c.family pick) (total (lagrangian (fall curves c.family pick) (rise curves c.family pick)) vs) budget + (width_of vs + ((vertex_at curves c.family (pick + 1)).hi - (vertex_at curves c.family (pick + 1)).lo) + 1)) budget x) (sym z) k))))

      taken_picks : (f : ℕ) → IsPrefix curves picks → IsNext curves picks f → Picks families (picked curves (set picks f (slice_index picks f + 1)))
      taken_picks f pre next =
          let t : IsPrefix curves (set picks f (slice_index picks f + 1)) = taken_prefix curves picks f pre next in
          all_picked families curves (set picks f (slice_index picks f + 1)) areas.count t.vertices.count (λ g b. vertex_among g (slice_index (set picks f (slice_index picks f + 1)) g) b (t.vertices.below g b))
