-- The states so far, and one more.
use Rattle.std.proofs.Common.{◌≡◌, ℕ, zero, suc, ◌+◌, ◌<◌, inl, inr, List, [], ◌∷◌, ◌++◌, Some, None, length, length-append, set, slice_index, sum, refl, sym, ap, ◌∙◌, subst, arith}
use Rattle.std.proofs.lemmas.List.Sums.{sum_by-cons, sum_by-set}
use Rattle.list_laws.proofs.Public.{below_or}
use Rattle.hull.specs.declared.point.Point.{Point}
use Rattle.step_walk.specs.Prefix.{curve_at, IsPrefix, HaveShapes}
use Rattle.step_walk.proofs.Public.{steps_left, left_falls}
use Rattle.budget_sweep.specs.declared.report.SweepPoint.{SweepPoint}
use Rattle.step_walk.specs.declared.walk.Next.{Next}
use Rattle.step_walk.specs.Walks.{Walked, AllDone, TellsFirst, MovesOn}
use Rattle.budget_sweep.specs.declared.sums.Sums.{Sums}
use Rattle.budget_sweep.specs.Sums.{AreSums}
use Rattle.budget_sweep.specs.Sweep.{all_steps, IsStateAt, IsState, IsSweep, state_at}

-- the states from none to all steps but the last that was taken
pub record Swept (curves : List (List Point)) (picks : List ℕ) (points : List SweepPoint) : Type 0 where
  pub count : length points ≡ sum picks
  pub each : (k : ℕ) → k < length points → IsState curves k (state_at points k)

-- before the first step no states are listed
pub none_swept : (curves : List (List Point)) (picks : List ℕ) → ((f : ℕ) → slice_index picks f ≡ 0)
    → Swept curves picks []
none_swept curves picks z = record {
  count = sym (no_sum picks z);
  each = λ k l. absurd (let m : k < 0 = l in omega arith);
}
  where
    no_sum : (xs : List ℕ) → ((f : ℕ) → slice_index xs f ≡ 0) → sum xs ≡ 0
    no_sum [] h = refl
    no_sum (x ∷ xs) h = (let a : x ≡ 0 = h zero in let b = no_sum xs (λ f. h (suc f)) in omega
        (arith, a, b, sum_by-cons (λ y. y) x xs))

earlier : (points : List SweepPoint) (p : SweepPoint) (k : ℕ) → k < length points
    → state_at (points ++ p ∷ []) k ≡ state_at points k
earlier [] p k l = absurd (let m : k < 0 = l in omega arith)
earlier (q ∷ points) p zero l = refl
earlier (q ∷ points) p (suc k) l = earlier points p k (omega arith)

latest : (points : List SweepPoint) (p : SweepPoint) → state_at (points ++ p ∷ []) (length points) ≡ p
latest [] p = refl
latest (q ∷ points) p = latest points p

module _ (curves : List (List Point)) (picks : List ℕ) (points : List SweepPoint) (h : Swept curves picks points)
    (p : SweepPoint) (pre : IsPrefix curves picks) (state : IsStateAt curves picks p) where
  own : IsState curves (length points) p
  own = record { picks = picks; taken = record { prefix = pre; count = sym h.count }; state = state }

  with_own : (k : ℕ) → k < length (points ++ p ∷ []) → IsState curves k (state_at (points ++ p ∷ []) k)
  with_own k l = elim (below_or k (length points) (let e = length-append points (p ∷ []) in omega (arith, l, e))) [
    | inl m ↦ subst (λ z. IsState curves k z) (sym (earlier points p k m)) (h.each k m)
    | inr e ↦ subst (λ i. IsState curves i (state_at (points ++ p ∷ []) i)) (sym e)
        (subst (λ z. IsState curves (length points) z) (sym (latest points p)) own)
  ]

  pub swept_more : (f : ℕ) → f < length picks → Swept curves (set picks f (slice_index picks f + 1)) (points ++ p ∷ [])
  swept_more f b = record {
    count =
        let e = length-append points (p ∷ []) in
        let n = h.count in
        let s = sum_by-set (λ y. y) picks f (slice_index picks f + 1) 0 b in
        omega (arith, e, n, s);
    each = with_own;
  }

  pub swept_all : sum picks ≡ all_steps curves → IsSweep curves (points ++ p ∷ [])
  swept_all all = record {
    count = let e = length-append points (p ∷ []) in let n = h.count in omega (arith, e, n, all);
    each = with_own;
  }

-- where no step is left, all are taken
pub all_taken : (curves : List (List Point)) (picks : List ℕ) → length picks ≡ length curves
    → ((f : ℕ) → f < length curves → slice_index picks f + 1 ≡ length (curve_at curves f))
    → sum picks ≡ all_steps curves
all_taken [] [] n h = refl
all_taken [] (k ∷ picks) n h = absurd (let l : suc (length picks) ≡ 0 = n in omega arith)
all_taken (c ∷ curves) [] n h = absurd (let l : 0 ≡ suc (length curves) = n in omega arith)
all_taken (c ∷ curves) (k ∷ picks) n h =
    let a : k + 1 ≡ length c = h zero (omega arith) in
    let b = all_taken curves picks (let l : suc (length picks) ≡ suc (length curves) = n in omega arith)
    (λ f l. h (suc f) (omega arith)) in
    omega (arith, a, b, sum_by-cons (λ y. y) k picks)

-- ---- the steps of the loop

-- one step of the walk
pub record Stepped (curves : List (List Point)) (new : Walked) (picks : List ℕ) (points more : List SweepPoint)
    (sums : Sums) : Type 0 where
  pub same : new.curves ≡ curves
  pub come_to : AreSums curves new.picks sums
  pub swept : Swept curves new.picks more
  pub smaller : steps_left curves new.picks < steps_left curves picks

-- with the state put down and the next step taken, the sweep goes on with one step less to go
pub stepped : (curves : List (List Point)) (old new : Walked) (next : Next) (points more : List SweepPoint)
    (p : SweepPoint) (sums after : Sums)
    → old.curves ≡ curves → TellsFirst old next → MovesOn old new → AreSums curves old.picks sums
    → Swept curves old.picks points
    → p ≡ record { cost = sums.cost; lo = sums.lo; hi = sums.hi; price = Some next.price } → more ≡ points ++ p ∷ []
    → AreSums curves (set old.picks next.family next.vertex) after
    → Stepped curves new old.picks points more after
stepped curves old new next points more p sums after same told on now swept is grown then =
    let t : TellsFirst (record { curves = curves; picks = old.picks }) next = subst
    (λ (cs : List (List Point)). TellsFirst (record { curves = cs; picks = old.picks }) next) same told in
    let pre = t.way.prefix in
    let family = t.first.step.family in
    let count = pre.vertices.count in
    let below : next.family < length old.picks = omega (arith, family, count) in
    let state : IsStateAt curves old.picks p = subst (λ (z : SweepPoint). IsStateAt curves old.picks z) (sym is)
    (record { cost = now.cost; lo = now.lo; hi = now.hi; price = (next.family, t.first, t.p, t.q) }) in
    let picks_are : new.picks ≡ set old.picks next.family (slice_index old.picks next.family + 1) = on.picks next.family
    told.first in
    let to_vertex : set old.picks next.family next.vertex ≡ new.picks = ap (λ k. set old.picks next.family k) t.vertex
    ∙ sym picks_are in
    record {
      same = on.curves ∙ same;
      come_to = subst (λ ks. AreSums curves ks after) to_vertex then;
      swept = subst (λ ks. Swept curves ks more) (sym picks_are)
          (subst (λ ps. Swept curves (set old.picks next.family (slice_index old.picks next.family + 1)) ps) (sym grown)
          (swept_more curves old.picks points swept p pre state next.family below));
      smaller = subst (λ ks. steps_left curves ks < steps_left curves old.picks) (sym picks_are)
          (left_falls curves old.picks next.family family count (pre.vertices.below next.family family));
    }

-- the end of the walk
pub record Ended (curves : List (List Point)) (points : List SweepPoint) : Type 0 where
  pub shapes : HaveShapes curves
  pub sweep : IsSweep curves points

-- with the last state put down, the list is the sweep of the curves
pub ended : (curves : List (List Point)) (old : Walked) (points more : List SweepPoint) (p : SweepPoint) (sums : Sums)
    → old.curves ≡ curves → AllDone old → AreSums curves old.picks sums → Swept curves old.picks points
    → p ≡ record { cost = sums.cost; lo = sums.lo; hi = sums.hi; price = None } → more ≡ points ++ p ∷ []
    → Ended curves more
ended curves old points more p sums same done now swept is grown =
    let d : AllDone (record { curves = curves; picks = old.picks }) =
    subst (λ (cs : List (List Point)). AllDone (record { curves = cs; picks = old.picks })) same done in
    let state : IsStateAt curves old.picks p = subst (λ (z : SweepPoint). IsStateAt curves old.picks z) (sym is)
    (record { cost = now.cost; lo = now.lo; hi = now.hi; price = d.done }) in
    record {
      shapes = d.way.shapes;
      sweep = subst (λ ps. IsSweep curves ps) (sym grown)
          (swept_all curves old.picks points swept p d.way.prefix state
          (all_taken curves old.picks d.way.prefix.vertices.count d.done));
    }
