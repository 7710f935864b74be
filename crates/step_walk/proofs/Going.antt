-- A walk that goes on by a step stays a walk.
use Rattle.std.proofs.Common.{◌≡◌, ℕ, suc, ◌+◌, ◌<◌, ◌≤◌, ◌⊎◌, inl, inr, List, [], ◌∷◌, length, set, slice_index, slice_index_or, get_or, refl, sym, ap, ◌∙◌, subst, arith}
use Rattle.std.specs.List.Sorted.{IsPermutation}
use Rattle.std.specs.BinaryHeap.{IsUpperBound, IsHeap}
use Rattle.std.proofs.lemmas.List.Sorted.{IsPermutation-refl}
use Rattle.std.proofs.lemmas.List.{get_or_default}
use Rattle.hull.specs.declared.point.Point.{Point}
use Rattle.step_walk.specs.Prefix.{HasStep, IsBefore, IsPrefix, IsNext, HaveShapes}
use Rattle.step_walk.proofs.Taking.{next_of}
use Rattle.step_walk.specs.declared.step.Step.{Step}
use Rattle.step_walk.specs.Steps.{step_cmp, TellsStep, HoldsNext}
use Rattle.step_walk.specs.Walks.{AreShort, IsWalk, TellsFirst, MovesOn}
use Rattle.step_walk.proofs.Waiting.{own_of, steepest_of, with_step, without, none_left}
use Rattle.step_walk.proofs.Turns.{Turn, turn_of}

module _ (curves : List (List Point)) (picks : List ℕ) (x : Step) (old rest : List Step) (few : length curves ≤ 2000) (short : AreShort curves) (shapes : HaveShapes curves) (pre : IsPrefix curves picks) (popped : IsPermutation old (x ∷ rest)) (top : IsUpperBound step_cmp x old) (waits : HoldsNext curves picks (length curves) old) (pick : ℕ) (is : pick ≡ get_or picks x.family pick) where
  turn : Turn curves picks x rest (pick + 1)
  turn = turn_of curves picks x old rest shapes pre popped top waits pick is

  -- with the next step of the same family among those that wait, the walk is a step further
  pub goes_with : (y : Step) (new : List Step) → TellsStep curves x.family (pick + 1) y → IsPermutation (y ∷ rest) new → IsHeap step_cmp new → IsWalk curves (set picks x.family (pick + 1)) new
  goes_with y new told pushed order = record {
    few = few;
    short = short;
    shapes = shapes;
    prefix = turn.prefix;
    order = order;
    waits = with_step curves (set picks x.family (pick + 1)) (length curves) x.family y rest new turn.family turn.others
        (subst (λ k. TellsStep curves x.family k y) (sym turn.own) told) pushed;
  }

  -- where the family has no further step, the walk is a step further with the others alone
  pub goes_without : (HasStep curves x.family (pick + 1) → ⊥) → IsHeap step_cmp rest → IsWalk curves (set picks x.family (pick + 1)) rest
  goes_without out order = record {
    few = few;
    short = short;
    shapes = shapes;
    prefix = turn.prefix;
    order = order;
    waits = without curves (set picks x.family (pick + 1)) (length curves) x.family rest turn.others (subst (λ k. HasStep curves x.family k → ⊥) (sym turn.own) out);
  }

  -- the greatest waiting step is the next of all steps
  pub goes_next : IsNext curves picks x.family
  goes_next = turn.next

  -- the pick of its family is the one that was read
  pub goes_from : pick ≡ slice_index picks x.family
  goes_from = let e = turn.vertex_is in omega (arith, e)

-- the greatest of the heap, as it is seen there
pub record Peeked (curves : List (List Point)) (picks : List ℕ) (x : Step) : Type 0 where
  pub next : IsNext curves picks x.family
  pub told : TellsStep curves x.family (slice_index picks x.family) x

-- the greatest of the waiting steps is the next of all steps
pub peeked : (curves : List (List Point)) (picks : List ℕ) (x : Step) (waiting : List Step) → HaveShapes curves → HoldsNext curves picks (length curves) waiting
    → 0 < length waiting → x ≡ slice_index_or waiting 0 x → IsUpperBound step_cmp x waiting → Peeked curves picks x
peeked curves picks x [] shapes waits some is top = absurd (let l : 0 < 0 = some in omega arith)
peeked curves picks x (y ∷ ys) shapes waits some is top =
    let e : x ≡ y = is in
    subst (λ z. Peeked curves picks z) (sym e) (from_top (subst (λ z. IsUpperBound step_cmp z (y ∷ ys)) e top))
  where
    from_top : IsUpperBound step_cmp y (y ∷ ys) → Peeked curves picks y
    from_top t = record {
      next = next_of curves picks y.family shapes (steepest_of curves picks y (y ∷ ys) ys (IsPermutation-refl (y ∷ ys)) t waits);
      told = own_of curves picks y (y ∷ ys) ys (IsPermutation-refl (y ∷ ys)) waits;
    }

-- what is told of it
pub tells : (curves : List (List Point)) (picks : List ℕ) (x : Step) (pick : ℕ) → HaveShapes curves → IsPrefix curves picks → Peeked curves picks x → pick ≡ get_or picks x.family pick
    → TellsFirst (record { curves = curves; picks = picks }) (record { family = x.family; vertex = pick + 1; price = x.price })
tells curves picks x pick shapes pre p is =
    let count = pre.vertices.count in
    let family = p.next.step.family in
    let e : pick ≡ slice_index picks x.family = is ∙ get_or_default picks x.family pick 0 (omega (arith, count, family)) in
    record {
      way = record { shapes = shapes; prefix = pre };
      first = p.next;
      vertex = ap (λ n. n + 1) e;
      p = p.told.p;
      q = p.told.q;
      small = x.ranges;
    }

-- one step is the next
pub not_both : (curves : List (List Point)) (f k g j : ℕ) → IsBefore curves f k g j → IsBefore curves g j f k → ⊥
not_both curves f k g j (inl a) (inl b) = omega (arith, a, b)
not_both curves f k g j (inl a) (inr b) = (let e = b.0 in omega (arith, a, e))
not_both curves f k g j (inr a) (inl b) = (let e = a.0 in omega (arith, b, e))
not_both curves f k g j (inr a) (inr b) = places a.1 b.1
  where
    places : (f < g) ⊎ ((f ≡ g) × (k < j)) → (g < f) ⊎ ((g ≡ f) × (j < k)) → ⊥
    places (inl a) (inl b) = omega (arith, a, b)
    places (inl a) (inr b) = (let e = b.0 in omega (arith, a, e))
    places (inr a) (inl b) = (let e = a.0 in omega (arith, b, e))
    places (inr a) (inr b) = (let l = a.1 in let m = b.1 in omega (arith, l, m))

-- one family alone has the next step
pub one_next : (curves : List (List Point)) (picks : List ℕ) (f g : ℕ) → IsNext curves picks f → IsNext curves picks g → f ≡ g
one_next curves picks f g a b = elim (a.first g (slice_index picks g) b.step (omega arith)) [
  | inl e ↦ sym e.0
  | inr i ↦ elim (b.first f (slice_index picks f) a.step (omega arith)) [
    | inl e ↦ e.0
    | inr j ↦ absurd (not_both curves f (slice_index picks f) g (slice_index picks g) i j)
  ]
]

-- the picks go on at the next step alone
pub moves_on : (curves : List (List Point)) (picks new : List ℕ) (f pick : ℕ) → IsNext curves picks f → pick ≡ slice_index picks f → new ≡ set picks f (pick + 1)
    → MovesOn (record { curves = curves; picks = picks }) (record { curves = curves; picks = new })
moves_on curves picks new f pick next e is = record {
  curves = refl;
  picks = λ g other.
      let same : f ≡ g = one_next curves picks f g next other in
      is ∙ ap (λ n. set picks f (n + 1)) e ∙ ap (λ h. set picks h (slice_index picks h + 1)) same;
}

-- where no step waits, none is next
pub none_next : (curves : List (List Point)) (picks : List ℕ) (waiting : List Step) → HoldsNext curves picks (length curves) waiting → length waiting ≡ 0 → (f : ℕ) → IsNext curves picks f → ⊥
none_next curves picks [] waits e f next = none_left curves picks waits f next.step
none_next curves picks (x ∷ waiting) waits e f next = absurd (let l : suc (length waiting) ≡ 0 = e in omega arith)
