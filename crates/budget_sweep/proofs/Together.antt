-- Sums of a number over the vertices at picks.
use Rattle.std.proofs.Common.{◌≡◌, ℕ, zero, suc, ◌+◌, ◌-◌, ◌*◌, ◌^◌, ◌<◌, ◌≤◌, List, [], ◌∷◌, length, set, get_or, slice_index, sym, ap, ◌∙◌, subst, arith}
use Rattle.hull.specs.declared.point.Point.{Point}
use Rattle.hull.specs.Curves.{Steps, InRange, nowhere, point_at}
use Rattle.hull.proofs.Public.{among_at}
use Rattle.price_bounds.specs.Sums.{total, cost_of, lo_of, hi_of}
use Rattle.step_walk.specs.Prefix.{curve_at, vertex_at, fall, rise, picked, AreVertices, IsPrefix, IsNext, HaveShapes}
use Rattle.step_walk.proofs.Public.{own_step, taken_prefix, vertex_is}
use Rattle.marginal_alloc.proofs.Public.{Around, around}
use Rattle.price_bounds.proofs.Public.{swapped}
use Rattle.case_plan.specs.Parts.{part}
use Rattle.case_plan.proofs.Public.{part_more, part_all}
use Rattle.budget_sweep.specs.declared.sums.Sums.{Sums}
use Rattle.budget_sweep.specs.Sums.{AreSums}
use Rattle.step_walk.specs.declared.walk.Next.{Next}
use Rattle.step_walk.specs.Walks.{Walked, TellsFirst}

-- ---- room

pub together : (g : Point → ℕ) (most : ℕ) (curves : List (List Point)) (picks : List ℕ) → length picks ≡ length curves
    → ((f : ℕ) → f < length curves → g (vertex_at curves f (slice_index picks f)) ≤ most)
    → total g (picked curves picks) ≤ most * length curves
together g most [] picks n h = omega arith
together g most (c ∷ curves) [] n h = absurd (let l : 0 ≡ suc (length curves) = n in omega arith)
together g most (c ∷ curves) (k ∷ picks) n h =
    let a : g (point_at c k) ≤ most = h zero (omega arith) in
    let b = together g most curves picks (let l : suc (length picks) ≡ suc (length curves) = n in omega arith)
    (λ f l. h (suc f) (omega arith)) in
    omega (arith, a, b)

-- the numbers at a curve's pick are within a point's limits
pub vertex_range : (curves : List (List Point)) (picks : List ℕ) (f : ℕ) → HaveShapes curves → AreVertices curves picks
    → f < length curves → InRange (vertex_at curves f (slice_index picks f))
vertex_range curves picks f shapes v b = (shapes f b).ranges (vertex_at curves f (slice_index picks f))
    (among_at (curve_at curves f) (slice_index picks f) nowhere (v.below f b))

-- the picks of at most 2,000 curves cost at most 2 * 10^15 together
pub cost_room : (curves : List (List Point)) (picks : List ℕ) → length curves ≤ 2000 → HaveShapes curves
    → AreVertices curves picks → cost_of (picked curves picks) ≤ 2000000000000000
cost_room curves picks few shapes v =
    let t = together (λ p. p.cost) 1000000000000 curves picks v.count
    (λ f b. (vertex_range curves picks f shapes v b).cost) in
    omega (arith, t, few)

-- their upper ends come to at most 2^85
pub hi_room : (curves : List (List Point)) (picks : List ℕ) → length curves ≤ 2000 → HaveShapes curves
    → AreVertices curves picks → hi_of (picked curves picks) ≤ 2 ^ 85
hi_room curves picks few shapes v =
    let t = together (λ p. p.hi) (2 ^ 74) curves picks v.count
    (λ f b. (let r = vertex_range curves picks f shapes v b in let h = r.hi in omega (arith, h))) in
    omega (arith, t, few)

-- ---- a step

-- one family goes on by a step
pub moved : (g : Point → ℕ) (curves : List (List Point)) (picks : List ℕ) (f k : ℕ) → f < length curves
    → length picks ≡ length curves
    → total g (picked curves (set picks f k)) + g (vertex_at curves f (slice_index picks f))
    ≡ total g (picked curves picks) + g (vertex_at curves f k)
moved g curves picks f k b n =
    let r : Around curves picks f = around curves picks f b n in
    let x = ap (total g) (r.moved k) in
    let y = ap (total g) r.here in
    let z = swapped g r.front (vertex_at curves f (slice_index picks f)) (vertex_at curves f k) r.back in
    omega (arith, x, y, z)

-- the sums before and after the next step
pub record Moves (curves : List (List Point)) (picks : List ℕ) (f : ℕ) : Type 0 where
  pub cost : cost_of (picked curves (set picks f (slice_index picks f + 1)))
      ≡ cost_of (picked curves picks) + rise curves f (slice_index picks f)
  pub lo : lo_of (picked curves (set picks f (slice_index picks f + 1))) + fall curves f (slice_index picks f)
      ≡ lo_of (picked curves picks)
  pub hi : hi_of (picked curves (set picks f (slice_index picks f + 1))) + (vertex_at curves f (slice_index picks f)).hi
      ≡ hi_of (picked curves picks) + (vertex_at curves f (slice_index picks f + 1)).hi
  pub cost_most : cost_of (picked curves (set picks f (slice_index picks f + 1))) ≤ 2000000000000000
  pub hi_most : hi_of (picked curves picks) ≤ 2 ^ 85
  pub end_most : (vertex_at curves f (slice_index picks f + 1)).hi < 2 ^ 74

pub moves : (curves : List (List Point)) (picks : List ℕ) (f : ℕ) → length curves ≤ 2000 → HaveShapes curves
    → IsPrefix curves picks → IsNext curves picks f → Moves curves picks f
moves curves picks f few shapes pre next =
    let family = next.step.family in
    let count = pre.vertices.count in
    let step : Steps (vertex_at curves f (slice_index picks f)) (vertex_at curves f (slice_index picks f + 1)) =
    own_step (curve_at curves f) (shapes f family).chain (slice_index picks f) next.step.place in
    let sc = step.cost in
    let sl = step.lo in
    let a = moved (λ p. p.cost) curves picks f (slice_index picks f + 1) family count in
    let b = moved (λ p. p.lo) curves picks f (slice_index picks f + 1) family count in
    record {
      cost = omega (arith, sc, a);
      lo = omega (arith, sl, b);
      hi = moved (λ p. p.hi) curves picks f (slice_index picks f + 1) family count;
      cost_most = cost_room curves (set picks f (slice_index picks f + 1)) few shapes
          (taken_prefix curves picks f pre next).vertices;
      hi_most = hi_room curves picks few shapes pre.vertices;
      end_most = ((shapes f family).ranges (vertex_at curves f (slice_index picks f + 1))
          (among_at (curve_at curves f) (slice_index picks f + 1) nowhere next.step.place)).hi;
    }

-- the sums that are made of them
pub sums_move : (curves : List (List Point)) (picks : List ℕ) (f vertex : ℕ) (sums : Sums) (p q start end : ℕ)
    → Moves curves picks f → AreSums curves picks sums
    → vertex ≡ slice_index picks f + 1 → p ≡ fall curves f (slice_index picks f)
    → q ≡ rise curves f (slice_index picks f)
    → start ≡ (vertex_at curves f (slice_index picks f)).hi → end ≡ (vertex_at curves f (slice_index picks f + 1)).hi
    → AreSums curves (set picks f vertex)
    (record { cost = sums.cost + q; lo = sums.lo - p; hi = sums.hi + end - start })
sums_move curves picks f vertex sums p q start end m s v pe qe se ee =
    subst (λ k. AreSums curves (set picks f k)
    (record { cost = sums.cost + q; lo = sums.lo - p; hi = sums.hi + end - start })) (sym v)
    (record {
      cost = (let a = m.cost in let b = s.cost in omega (arith, a, b, qe));
      lo = (let a = m.lo in let b = s.lo in omega (arith, a, b, pe));
      hi = (let a = m.hi in let b = s.hi in omega (arith, a, b, se, ee));
    })

-- the sums over the picks of the first families
pub record SummedTo (curves : List (List Point)) (picks : List ℕ) (f : ℕ) (sums : Sums) : Type 0 where
  pub cost : sums.cost ≡ part (λ p. p.cost) curves picks f
  pub lo : sums.lo ≡ part (λ p. p.lo) curves picks f
  pub hi : sums.hi ≡ part (λ p. p.hi) curves picks f
  pub small_cost : sums.cost ≤ 1000000000000 * f
  pub small_lo : sums.lo ≤ 2 ^ 74 * f
  pub small_hi : sums.hi ≤ 2 ^ 74 * f

-- with the pick of one curve more, the sums are those of the first f + 1 curves
pub summed_more : (curves : List (List Point)) (picks : List ℕ) (f : ℕ) (sums : Sums) (v : Point) → InRange v
    → v ≡ vertex_at curves f (slice_index picks f) → SummedTo curves picks f sums
    → SummedTo curves picks (f + 1) (record { cost = sums.cost + v.cost; lo = sums.lo + v.lo; hi = sums.hi + v.hi })
summed_more curves picks f sums v r e s =
    let c1 = s.cost in let c2 = s.lo in let c3 = s.hi in
    let m1 = s.small_cost in let m2 = s.small_lo in let m3 = s.small_hi in
    let r1 = r.cost in let r2 = r.ends in let r3 = r.hi in
    record {
      cost = omega (arith, c1, part_more (λ p. p.cost) curves picks f v e);
      lo = omega (arith, c2, part_more (λ p. p.lo) curves picks f v e);
      hi = omega (arith, c3, part_more (λ p. p.hi) curves picks f v e);
      small_cost = omega (arith, m1, r1);
      small_lo = omega (arith, m2, r2, r3);
      small_hi = omega (arith, m3, r3);
    }

-- with the picks of all curves the sums are those of the state
pub summed_all : (curves : List (List Point)) (picks : List ℕ) (f : ℕ) (sums : Sums) → f ≡ length curves
    → length picks ≡ length curves → SummedTo curves picks f sums → AreSums curves picks sums
summed_all curves picks f sums e n s = record {
  cost = s.cost ∙ part_all (λ p. p.cost) curves picks f e n;
  lo = s.lo ∙ part_all (λ p. p.lo) curves picks f e n;
  hi = s.hi ∙ part_all (λ p. p.hi) curves picks f e n;
}

-- ---- the next step of a walk, as it is read

pub record Going (curves : List (List Point)) (picks : List ℕ) (next : Next) (start end : Point) : Type 0 where
  pub moves : Moves curves picks next.family
  pub told : TellsFirst (record { curves = curves; picks = picks }) next
  pub start_is : start.hi ≡ (vertex_at curves next.family (slice_index picks next.family)).hi
  pub end_is : end.hi ≡ (vertex_at curves next.family (slice_index picks next.family + 1)).hi

-- the first step that isn't taken goes from one vertex of its curve to the next
pub going : (curves : List (List Point)) (w : Walked) (next : Next) (r : List Point) (start end : Point)
    → length curves ≤ 2000 → w.curves ≡ curves → TellsFirst w next
    → r ≡ get_or curves next.family r → start ≡ point_at r (next.vertex - 1) → end ≡ point_at r next.vertex
    → Going curves w.picks next start end
going curves w next r start end few same told is s e =
    let t : TellsFirst (record { curves = curves; picks = w.picks }) next = subst
    (λ (cs : List (List Point)). TellsFirst (record { curves = cs; picks = w.picks }) next) same told in
    let v = t.vertex in
    let k : next.vertex - 1 ≡ slice_index w.picks next.family = omega (arith, v) in
    record {
      moves = moves curves w.picks next.family few t.way.shapes t.way.prefix t.first;
      told = t;
      start_is = ap (λ (x : Point). x.hi)
          (vertex_is curves next.family (next.vertex - 1) r start is t.first.step.family s
          ∙ ap (λ n. vertex_at curves next.family n) k);
      end_is = ap (λ (x : Point). x.hi)
          (vertex_is curves next.family next.vertex r end is t.first.step.family e
          ∙ ap (λ n. vertex_at curves next.family n) t.vertex);
    }
