-- What the heap of next steps says, and what it keeps.
use Rattle.std.proofs.Common.{◌≡◌, ℕ, ◌+◌, ◌*◌, ◌<◌, ◌≤◌, ◌≢◌, ◌⊎◌, inl, inr, List, [], ◌∷◌, false, length, set, slice_index, refl, sym, ap, ◌∙◌, subst, arith, get_or-set_other, rules}
use Rattle.std.specs.declared.cmp.Ordering.{Ordering}
use Rattle.std.specs.declared.cmp.Ordering.TheVariants.{Less, Equal, Greater}
use Rattle.std.specs.Ordering.{nat_cmp, is_lt, ordering_then, MatchOrdering}
use Rattle.std.specs.List.{AllByRecursion, sum_by}
use Rattle.std.specs.List.Sorted.{IsPermutation}
use Rattle.std.specs.BinaryHeap.{IsUpperBound}
use Rattle.std.proofs.lemmas.Cmp.{ranked}
use Rattle.std.proofs.lemmas.List.Elements.{All-from_recursion, recursion_from_All}
use Rattle.std.proofs.lemmas.List.Sorted.{All-permutation, sum_by_pushed, sum_by_popped}
use Rattle.std.proofs.lemmas.List.Recursion.{is_sum_by}
use Rattle.std.proofs.lemmas.Bool.{cases_eq}
use Rattle.hull.specs.declared.point.Point.{Point}
use Rattle.step_walk.specs.declared.step.Step.{Step}
use Rattle.step_walk.specs.Prefix.{HasStep, fall, rise, IsBefore}
use Rattle.step_walk.specs.Steps.{step_cmp, TellsStep, is_of, count_of, IsNextOfOwn, HoldsNext}
use Rattle.step_walk.proofs.Taking.{IsSteepest}

-- a fact of each goes along with a permutation
moved : (P : Step → Type 0) (xs ys : List Step) → IsPermutation xs ys → AllByRecursion P xs → AllByRecursion P ys
moved P xs ys h a = recursion_from_All P ys (All-permutation P xs ys h (All-from_recursion P xs a))

weaker : (P Q : Step → Type 0) → ((s : Step) → P s → Q s) → (xs : List Step) → AllByRecursion P xs → AllByRecursion Q xs
weaker P Q f [] a = tt
weaker P Q f (x ∷ xs) a = (f x a.0, weaker P Q f xs a.1)

both : (P Q R : Step → Type 0) → ((s : Step) → P s → Q s → R s) → (xs : List Step) → AllByRecursion P xs → AllByRecursion Q xs → AllByRecursion R xs
both P Q R f [] a b = tt
both P Q R f (x ∷ xs) a b = (f x a.0 b.0, both P Q R f xs a.1 b.1)

count_is : (g : ℕ) (xs : List Step) → count_of g xs ≡ sum_by (λ s. is_of g s.family) xs
count_is g = is_sum_by (count_of g) (λ s. is_of g s.family) refl (λ _ _. refl)

count_pushed : (g : ℕ) (x : Step) (xs ys : List Step) → IsPermutation (x ∷ xs) ys → count_of g ys ≡ is_of g x.family + count_of g xs
count_pushed g x xs ys h = count_is g ys ∙ sum_by_pushed (λ s. is_of g s.family) x xs ys h ∙ ap (λ n. is_of g x.family + n) (sym (count_is g xs))

count_popped : (g : ℕ) (x : Step) (xs ys : List Step) → IsPermutation xs (x ∷ ys) → count_of g ys + is_of g x.family ≡ count_of g xs
count_popped g x xs ys h = ap (λ n. n + is_of g x.family) (count_is g ys) ∙ sum_by_popped (λ s. is_of g s.family) x xs ys h ∙ sym (count_is g xs)

of_own : (g f : ℕ) → f ≡ g → is_of g f ≡ 1
of_own g f e = omega (arith, e)

of_other : (g f : ℕ) → g ≢ f → is_of g f ≡ 0
of_other g f n = elim (apart g f n) [ inl l ↦ omega (arith, l) | inr l ↦ omega (arith, l) ]
  where
    apart : (g f : ℕ) → g ≢ f → (g < f) ⊎ (f < g)
    apart g f n = grind arith

-- a step of the family that is counted
pub record Found (P : Step → Type 0) (g : ℕ) : Type 0 where
  pub step : Step
  pub family : step.family ≡ g
  pub holds : P step

found : (P : Step → Type 0) (g : ℕ) (xs : List Step) → AllByRecursion P xs → 0 < count_of g xs → Found P g
found P g [] a h = absurd (let l : 0 < 0 = h in omega arith)
found P g (x ∷ xs) a h = elim (cases_eq g x.family) [
  | inl e ↦ record { step = x; family = sym e; holds = a.0 }
  | inr n ↦ found P g xs a.1 (let z = of_other g x.family n in omega (arith, h, z))
]

-- where none is counted, there is none
none_of : (g : ℕ) (xs : List Step) → count_of g xs ≡ 0 → AllByRecursion (λ s. s.family ≢ g) xs
none_of g [] h = tt
none_of g (x ∷ xs) h = (
  λ e. absurd (let z = of_own g x.family e in omega (arith, h, z)),
  none_of g xs (omega (arith, h)),
)

-- x isn't less than y
placed : (x y : ℕ) → MatchOrdering (nat_cmp x y) (x < y) (x ≡ y) (y < x)
placed x y = ranked x y (nat_cmp x y) refl

pub not_less : (x y : Step) → is_lt (step_cmp x y) ≡ false → (y.price.p * x.price.q < x.price.p * y.price.q) ⊎ ((y.price.p * x.price.q ≡ x.price.p * y.price.q) × (x.family ≤ y.family))
not_less x y h = cases (nat_cmp (x.price.p * y.price.q) (y.price.p * x.price.q)) (nat_cmp y.family x.family) (placed (x.price.p * y.price.q) (y.price.p * x.price.q)) (placed y.family x.family) h
  where
    cases : (r s : Ordering) → MatchOrdering r (x.price.p * y.price.q < y.price.p * x.price.q) (x.price.p * y.price.q ≡ y.price.p * x.price.q) (y.price.p * x.price.q < x.price.p * y.price.q) → MatchOrdering s (y.family < x.family) (y.family ≡ x.family) (x.family < y.family)
        → is_lt (ordering_then r s) ≡ false → (y.price.p * x.price.q < x.price.p * y.price.q) ⊎ ((y.price.p * x.price.q ≡ x.price.p * y.price.q) × (x.family ≤ y.family))
    cases Less s a b h = absurd (search rules)
    cases Equal Less a b h = absurd (search rules)
    cases Equal Equal a b h = inr (sym a, (let e : y.family ≡ x.family = b in omega (arith, e)))
    cases Equal Greater a b h = inr (sym a, (let l : x.family < y.family = b in omega (arith, l)))
    cases Greater s a b h = inl a

module _ (curves : List (List Point)) (picks : List ℕ) where
  -- of two next steps the one that isn't less comes first
  comes_first : (x y : Step) → TellsStep curves x.family (slice_index picks x.family) x → TellsStep curves y.family (slice_index picks y.family) y → is_lt (step_cmp x y) ≡ false
      → (y.family ≡ x.family) ⊎ IsBefore curves x.family (slice_index picks x.family) y.family (slice_index picks y.family)
  comes_first x y a b h = elim (not_less x y h) [
    | inl l ↦ inr (inl (
        let m = product y x b a in let n = product x y a b in omega (arith, l, m, n)))
    | inr e ↦ elim (at_most x.family y.family e.1) [
      | inl z ↦ inl z
      | inr z ↦ inr (inr ((let m = product y x b a in let n = product x y a b in let i = e.0 in omega (arith, i, m, n)), inl z))
    ]
  ]
    where
      product : (u v : Step) → TellsStep curves u.family (slice_index picks u.family) u → TellsStep curves v.family (slice_index picks v.family) v
          → u.price.p * v.price.q ≡ fall curves u.family (slice_index picks u.family) * rise curves v.family (slice_index picks v.family)
      product u v s t = ap (λ n. n * v.price.q) s.p ∙ ap (λ n. fall curves u.family (slice_index picks u.family) * n) t.q

      at_most : (f g : ℕ) → f ≤ g → (g ≡ f) ⊎ (f < g)
      at_most f g h = grind arith

  -- the greatest of the heap is the steepest next step
  pub steepest_of : (x : Step) (old rest : List Step) → IsPermutation old (x ∷ rest) → IsUpperBound step_cmp x old → HoldsNext curves picks (length curves) old → IsSteepest curves picks x.family
  steepest_of x old rest h top all =
      let own : IsNextOfOwn curves picks (length curves) x = (moved (IsNextOfOwn curves picks (length curves)) old (x ∷ rest) h all.own).0 in
      record {
        step = own.told.step;
        first = λ g s. from g (found
            (λ y. (y.family ≡ x.family) ⊎ IsBefore curves x.family (slice_index picks x.family) y.family (slice_index picks y.family)) g old
            (both (λ y. is_lt (step_cmp x y) ≡ false) (IsNextOfOwn curves picks (length curves)) (λ y. (y.family ≡ x.family) ⊎ IsBefore curves x.family (slice_index picks x.family) y.family (slice_index picks y.family))
            (λ y l o. comes_first x y own.told o.told l) old top all.own)
            (all.waits g s.family s));
      }
    where
      from : (g : ℕ) → Found (λ y. (y.family ≡ x.family) ⊎ IsBefore curves x.family (slice_index picks x.family) y.family (slice_index picks y.family)) g
          → (g ≡ x.family) ⊎ IsBefore curves x.family (slice_index picks x.family) g (slice_index picks g)
      from g f = subst (λ z. (z ≡ x.family) ⊎ IsBefore curves x.family (slice_index picks x.family) z (slice_index picks z)) f.family f.holds

  -- a step out of those that wait is the next one of its family
  pub own_of : (x : Step) (old rest : List Step) → IsPermutation old (x ∷ rest) → HoldsNext curves picks (length curves) old → TellsStep curves x.family (slice_index picks x.family) x
  own_of x old rest h all = (moved (IsNextOfOwn curves picks (length curves)) old (x ∷ rest) h all.own).0.told

  -- where no step is left in the heap, none is left
  pub none_left : HoldsNext curves picks (length curves) [] → (g : ℕ) → HasStep curves g (slice_index picks g) → ⊥
  none_left all g s = let l : 0 < 0 = all.waits g s.family s in absurd (omega arith)

-- the steps that wait for the families below n, but for f
pub record HoldsOthers (curves : List (List Point)) (picks : List ℕ) (n f : ℕ) (steps : List Step) : Type 0 where
  pub own : AllByRecursion (IsNextOfOwn curves picks n) steps
  pub once : (g : ℕ) → count_of g steps ≤ 1
  pub no_own : count_of f steps ≡ 0
  pub waits : (g : ℕ) → g < n → g ≢ f → HasStep curves g (slice_index picks g) → 0 < count_of g steps

-- with no step of f
pub without : (curves : List (List Point)) (picks : List ℕ) (n f : ℕ) (steps : List Step) → HoldsOthers curves picks n f steps → (HasStep curves f (slice_index picks f) → ⊥) → HoldsNext curves picks n steps
without curves picks n f steps all out = record {
  own = all.own;
  once = all.once;
  waits = λ g l s. elim (cases_eq g f) [
    | inl e ↦ absurd (out (subst (λ z. HasStep curves z (slice_index picks z)) e s))
    | inr d ↦ all.waits g l d s
  ];
}

-- with the next step of f
pub with_step : (curves : List (List Point)) (picks : List ℕ) (n f : ℕ) (x : Step) (steps new : List Step) → f < n → HoldsOthers curves picks n f steps → TellsStep curves f (slice_index picks f) x → IsPermutation (x ∷ steps) new → HoldsNext curves picks n new
with_step curves picks n f x steps new b all told h = record {
  own = moved (IsNextOfOwn curves picks n) (x ∷ steps) new h (
    record { below = subst (λ z. z < n) (sym told.family) b; told = subst (λ z. TellsStep curves z (slice_index picks z) x) (sym told.family) told },
    all.own,
  );
  once = λ g. elim (cases_eq g f) [
    | inl e ↦ (let c = count_pushed g x steps new h in let z = ap (λ k. count_of k steps) e ∙ all.no_own in omega (arith, c, z))
    | inr d ↦ (let c = count_pushed g x steps new h in let o = all.once g in let z = of_other g f d in let y = ap (λ k. is_of g k) told.family in omega (arith, c, o, y, z))
  ];
  waits = λ g l s. elim (cases_eq g f) [
    | inl e ↦ (let c = count_pushed g x steps new h in let y = of_own g x.family (told.family ∙ sym e) in omega (arith, c, y))
    | inr d ↦ (let c = count_pushed g x steps new h in let o = all.waits g l d s in omega (arith, c, o))
  ];
}

-- the heap after its greatest is out and its family is a step further
pub others_of : (curves : List (List Point)) (picks : List ℕ) (x : Step) (old rest : List Step) (pick : ℕ) → IsPermutation old (x ∷ rest) → HoldsNext curves picks (length curves) old → HoldsOthers curves (set picks x.family pick) (length curves) x.family rest
others_of curves picks x old rest pick h all = record {
  own = both (λ s. s.family ≢ x.family) (IsNextOfOwn curves picks (length curves)) (IsNextOfOwn curves (set picks x.family pick) (length curves))
      (λ s n o. record { below = o.below; told = subst (λ k. TellsStep curves s.family k s) (sym (get_or-set_other picks x.family s.family pick 0 n)) o.told })
      rest (none_of x.family rest gone) (moved (IsNextOfOwn curves picks (length curves)) old (x ∷ rest) h all.own).1;
  once = λ g. (let c = count_popped g x old rest h in let o = all.once g in omega (arith, c, o));
  no_own = gone;
  waits = λ g l n s. (
      let c = count_popped g x old rest h in
      let o = all.waits g l (subst (λ k. HasStep curves g k) (get_or-set_other picks x.family g pick 0 n) s) in
      let z = of_other g x.family n in
      omega (arith, c, o, z));
}
  where
    gone : count_of x.family rest ≡ 0
    gone =
        let c = count_popped x.family x old rest h in
        let o = all.once x.family in
        let z = of_own x.family x.family refl in
        omega (arith, c, o, z)

-- one family more, of which no step waits yet
pub one_more : (curves : List (List Point)) (picks : List ℕ) (n : ℕ) (steps : List Step) → HoldsNext curves picks n steps → HoldsOthers curves picks (n + 1) n steps
one_more curves picks n steps all = record {
  own = weaker (IsNextOfOwn curves picks n) (IsNextOfOwn curves picks (n + 1)) (λ s o. record { below = (let l = o.below in omega (arith, l)); told = o.told }) steps all.own;
  once = all.once;
  no_own = none_counted n steps (weaker (IsNextOfOwn curves picks n) (λ s. s.family < n) (λ s o. o.below) steps all.own);
  waits = λ g l d s. all.waits g (below_other g n l d) s;
}
  where
    below_other : (g n : ℕ) → g < n + 1 → g ≢ n → g < n
    below_other g n l d = grind arith

    none_counted : (n : ℕ) (xs : List Step) → AllByRecursion (λ s. s.family < n) xs → count_of n xs ≡ 0
    none_counted n [] a = refl
    none_counted n (x ∷ xs) a = (let l = a.0 in let r = none_counted n xs a.1 in omega (arith, l, r))
