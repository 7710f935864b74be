-- One turn of the allocation: the greatest waiting step is the next of all steps, and is taken.
use Rattle.std.proofs.Common.{◌≡◌, ℕ, ◌+◌, ◌<◌, List, ◌∷◌, length, set, slice_index, sym, ◌∙◌, subst, arith, get_or, get_or-set_same}
use Rattle.std.specs.List.Sorted.{IsPermutation}
use Rattle.std.specs.BinaryHeap.{IsUpperBound}
use Rattle.std.proofs.lemmas.List.{get_or_default}
use Rattle.hull.specs.declared.point.Point.{Point}
use Rattle.step_walk.specs.declared.step.Step.{Step}
use Rattle.step_walk.specs.Prefix.{curve_at, IsPrefix, IsNext, HaveShapes}
use Rattle.step_walk.specs.Steps.{step_cmp, TellsStep, HoldsNext}
use Rattle.step_walk.proofs.Taking.{next_of, taken_prefix, left_falls, steps_left}
use Rattle.step_walk.proofs.Waiting.{HoldsOthers, steepest_of, own_of, others_of}

-- what holds of the popped step, and of the picks with its vertex
pub record Turn (curves : List (List Point)) (picks : List ℕ) (x : Step) (rest : List Step) (vertex : ℕ) : Type 0 where
  pub family : x.family < length curves
  pub in_picks : x.family < length picks
  pub vertex_is : vertex ≡ slice_index picks x.family + 1
  pub place : vertex < length (curve_at curves x.family)
  pub told : TellsStep curves x.family (slice_index picks x.family) x
  pub next : IsNext curves picks x.family
  pub prefix : IsPrefix curves (set picks x.family vertex)
  pub others : HoldsOthers curves (set picks x.family vertex) (length curves) x.family rest
  pub own : slice_index (set picks x.family vertex) x.family ≡ vertex
  pub smaller : steps_left curves (set picks x.family vertex) < steps_left curves picks

module _ (curves : List (List Point)) (picks : List ℕ) (x : Step) (old rest : List Step) (shapes : HaveShapes curves) (pre : IsPrefix curves picks) (popped : IsPermutation old (x ∷ rest)) (top : IsUpperBound step_cmp x old) (waits : HoldsNext curves picks (length curves) old) where
  by_pick : Turn curves picks x rest (slice_index picks x.family + 1)
  by_pick =
      let told = own_of curves picks x old rest popped waits in
      let next = next_of curves picks x.family shapes (steepest_of curves picks x old rest popped top waits) in
      let family = told.step.family in
      let count = pre.vertices.count in
      record {
        family = family;
        in_picks = omega (arith, family, count);
        vertex_is = omega arith;
        place = told.step.place;
        told = told;
        next = next;
        prefix = taken_prefix curves picks x.family pre next;
        others = others_of curves picks x old rest (slice_index picks x.family + 1) popped waits;
        own = get_or-set_same picks x.family (slice_index picks x.family + 1) 0 (omega (arith, family, count));
        smaller = left_falls curves picks x.family family count (pre.vertices.below x.family family);
      }

  -- with the pick as it is read
  pub turn_of : (pick : ℕ) → pick ≡ get_or picks x.family pick → Turn curves picks x rest (pick + 1)
  turn_of pick is =
      let known = by_pick in
      let e : pick ≡ slice_index picks x.family = is ∙ get_or_default picks x.family pick 0 known.in_picks in
      subst (λ n. Turn curves picks x rest (n + 1)) (sym e) known
