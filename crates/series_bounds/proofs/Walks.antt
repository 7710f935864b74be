-- The weights' recursions by their index, the last index, and the steps of the walk down from the pivot.
use Rattle.std.proofs.Common.{◌≡◌, ℕ, zero, suc, ◌+◌, ◌-◌, ◌*◌, ◌<◌, ◌≤◌, ◌^◌, Bool, true, false, not, nat_lt, nat_le, max, List, [], ◌∷◌, ◌++◌, reverse, refl, sym, ap, ap₂, ◌∙◌, arith, subst, inl, inr, ◌⊎◌, le_trans, le_of_eq, add-one}
use Rattle.std.proofs.Math.Nat.{eq-or-lt_of_le, le-max_left, le-max_right, max-le}
use Rattle.std.proofs.lemmas.Bool.{lt-ltb, le-ltb, le-leb, cond-true, cond-false, or_left, or_right, or_from, and_left, and_from, cases_Bool, cases_lt}
use Rattle.std.proofs.lemmas.List.{reverse-append}
use Rattle.fixed_interval.specs.Ends.{Ends, ends_exact, ends_mul}
use Rattle.series_bounds.specs.Profile.{ratio_ends, back_ends, pivot_at, weight_before, weight_past, weight_ends, has_remainder, remainder_at, may_end, first_from, least_end, last_index, any_below, is_wide, listed}
use Rattle.series_bounds.specs.Walk.{ToPivot}

-- ---- the weights by their index

from_pivot : (f : ℕ) (m d : Ends) (x : ℕ) → pivot_at f m d ≤ x → weight_ends f m d x ≡ weight_past f m d (pivot_at f m d) (x - pivot_at f m d)
unfolding weight_ends
from_pivot f m d x h = cond-false (nat_lt x (pivot_at f m d)) _ _ (le-ltb x (pivot_at f m d) h)

below_pivot : (f : ℕ) (m d : Ends) (x : ℕ) → x < pivot_at f m d → weight_ends f m d x ≡ weight_before f m d (pivot_at f m d) (pivot_at f m d - x)
unfolding weight_ends
below_pivot f m d x h = cond-true (nat_lt x (pivot_at f m d)) _ _ (lt-ltb x (pivot_at f m d) h)

past_start : (f : ℕ) (m d : Ends) (c k : ℕ) → k ≡ 0 → weight_past f m d c k ≡ ends_exact f 1
unfolding weight_past
past_start f m d c k e = rw e refl

before_start : (f : ℕ) (m d : Ends) (c k : ℕ) → k ≡ 0 → weight_before f m d c k ≡ ends_exact f 1
unfolding weight_before
before_start f m d c k e = rw e refl

-- the weight at the pivot is 1
pub weight_at_pivot : (f : ℕ) (m d : Ends) → weight_ends f m d (pivot_at f m d) ≡ ends_exact f 1
weight_at_pivot f m d = from_pivot f m d (pivot_at f m d) (omega arith) ∙ past_start f m d (pivot_at f m d) (pivot_at f m d - pivot_at f m d) (omega arith)

to_pivot : (f : ℕ) (m d : Ends) (x : ℕ) → x ≤ pivot_at f m d → weight_ends f m d x ≡ weight_before f m d (pivot_at f m d) (pivot_at f m d - x)
to_pivot f m d x h = elim (eq-or-lt_of_le {n = x} {m = pivot_at f m d} h) [
  | inl e ↦ ap (weight_ends f m d) e ∙ weight_at_pivot f m d ∙ sym (before_start f m d (pivot_at f m d) (pivot_at f m d - x) (omega arith))
  | inr l ↦ below_pivot f m d x l
]

past_step : (f : ℕ) (m d : Ends) (c k : ℕ) → weight_past f m d c (suc k) ≡ ends_mul f (weight_past f m d c k) (ratio_ends f m d (c + suc k))
unfolding weight_past
past_step f m d c k = refl

before_step : (f : ℕ) (m d : Ends) (c k : ℕ) → weight_before f m d c (suc k) ≡ ends_mul f (weight_before f m d c k) (back_ends f m d (c - k))
unfolding weight_before
before_step f m d c k = refl

-- u(x) = u(x - 1) ratio(x) past the pivot
pub weight_up : (f : ℕ) (m d : Ends) (x : ℕ) → pivot_at f m d < x → weight_ends f m d x ≡ ends_mul f (weight_ends f m d (x - 1)) (ratio_ends f m d x)
weight_up f m d x h =
    let e : x - pivot_at f m d ≡ suc (x - 1 - pivot_at f m d) = omega arith in
    let i : pivot_at f m d + suc (x - 1 - pivot_at f m d) ≡ x = omega arith in
    from_pivot f m d x (omega arith) ∙ ap (weight_past f m d (pivot_at f m d)) e ∙ past_step f m d (pivot_at f m d) (x - 1 - pivot_at f m d)
    ∙ ap₂ (λ y z. ends_mul f y (ratio_ends f m d z)) (sym (from_pivot f m d (x - 1) (omega arith))) i

-- u(x - 1) = u(x) back(x) up to the pivot
pub weight_down : (f : ℕ) (m d : Ends) (x : ℕ) → 0 < x → x ≤ pivot_at f m d → weight_ends f m d (x - 1) ≡ ends_mul f (weight_ends f m d x) (back_ends f m d x)
weight_down f m d x p h =
    let e : pivot_at f m d - (x - 1) ≡ suc (pivot_at f m d - x) = omega arith in
    let i : pivot_at f m d - (pivot_at f m d - x) ≡ x = omega arith in
    to_pivot f m d (x - 1) (omega arith) ∙ ap (weight_before f m d (pivot_at f m d)) e ∙ before_step f m d (pivot_at f m d) (pivot_at f m d - x)
    ∙ ap₂ (λ y z. ends_mul f y (back_ends f m d z)) (sym (to_pivot f m d x h)) i

-- ---- the first that passes

first_least : (p : ℕ → Bool) (x n y : ℕ) → ((z : ℕ) → x ≤ z → z < y → p z ≡ false) → y ≤ x + n → y ≤ first_from p x n
unfolding first_from
first_least p x zero y h l = omega arith
first_least p x (suc n) y h l = elim (cases_lt x y) [
  | inl k ↦ le_trans (first_least p (suc x) n y (λ z i j. h z (omega arith) j) (omega arith))
      (le_of_eq (sym (cond-false (p x) x (first_from p (suc x) n) (h x (omega arith) k))))
  | inr k ↦ elim (cases_Bool (p x)) [
    | inl t ↦ le_trans k (le_of_eq (sym (cond-true (p x) x (first_from p (suc x) n) t)))
    | inr t ↦ le_trans (first_least p (suc x) n y (λ z i j. h z (omega arith) j) (omega arith)) (le_of_eq (sym (cond-false (p x) x (first_from p (suc x) n) t)))
  ]
]

first_is : (p : ℕ → Bool) (x n y : ℕ) → ((z : ℕ) → x ≤ z → z < y → p z ≡ false) → x ≤ y → (y < x + n → p y ≡ true) → y ≤ x + n → first_from p x n ≡ y
unfolding first_from
first_is p x zero y h l t k = omega arith
first_is p x (suc n) y h l t k = elim (eq-or-lt_of_le {n = x} {m = y} l) [
  | inl e ↦ cond-true (p x) x (first_from p (suc x) n) (ap p e ∙ t (omega arith)) ∙ e
  | inr i ↦ cond-false (p x) x (first_from p (suc x) n) (h x (omega arith) i)
      ∙ first_is p (suc x) n y (λ z a b. h z (omega arith) b) i (λ a. t (omega arith)) (omega arith)
]

-- the first that passes from x on isn't below x
pub first_from_start : (p : ℕ → Bool) (x n : ℕ) → x ≤ first_from p x n
first_from_start p x n = first_least p x n x (λ z i j. absurd (omega arith)) (omega arith)

-- ---- the last index

-- the pivot is below the first index at which the list may end
pub end_past_pivot : (f : ℕ) (m d : Ends) → pivot_at f m d < least_end f m d
unfolding least_end
end_past_pivot f m d = omega (arith, le-max_left (pivot_at f m d + 1) 63)

-- the list may end at 63 at the earliest
pub end_from_63 : (f : ℕ) (m d : Ends) → 63 ≤ least_end f m d
unfolding least_end
end_from_63 f m d = le-max_right (pivot_at f m d + 1) 63

-- no index past the pivot and from 63 on is before the first at which the list may end
pub end_most : (f : ℕ) (m d : Ends) (x : ℕ) → pivot_at f m d < x → 63 ≤ x → least_end f m d ≤ x
unfolding least_end
end_most f m d x h k = max-le (omega arith) k

-- no index below x may be the last one
abbrev pub Passed : (f : ℕ) → Ends → Ends → ℕ → Type 0
Passed f m d x = (y : ℕ) → least_end f m d ≤ y → y < x → may_end f m d y ≡ false

-- stopping at x is early enough: the last index isn't below it
pub last_least : (f : ℕ) (m d : Ends) (x : ℕ) → pivot_at f m d ≤ 256 → x ≤ 1024 → Passed f m d x → x ≤ last_index f m d
unfolding last_index
last_least f m d x q l h =
    let a : least_end f m d ≤ 1024 = end_most f m d 1024 (omega arith) (omega arith) in
    first_least (may_end f m d) (least_end f m d) (1024 - least_end f m d) x h (omega arith)

-- the last index is the first that may be it, or 1024
pub last_is : (f : ℕ) (m d : Ends) (x : ℕ) → pivot_at f m d < x → 63 ≤ x → x ≤ 1024 → Passed f m d x → (x < 1024 → may_end f m d x ≡ true) → last_index f m d ≡ x
unfolding last_index
last_is f m d x p q l h t =
    let a : least_end f m d ≤ x = end_most f m d x p q in
    first_is (may_end f m d) (least_end f m d) (1024 - least_end f m d) x h a (λ i. t (omega arith)) (omega arith)

first_passed : (p : ℕ → Bool) (x n y : ℕ) → x ≤ y → y < first_from p x n → p y ≡ false
unfolding first_from
first_passed p x zero y h l = absurd (omega arith)
first_passed p x (suc n) y h l = elim (cases_Bool (p x)) [
  | inl t ↦ (let e : first_from p x (suc n) ≡ x = cond-true (p x) x (first_from p (suc x) n) t in absurd (omega (arith, h, l, e)))
  | inr t ↦ elim (eq-or-lt_of_le {n = x} {m = y} h) [
    | inl e ↦ ap p (sym e) ∙ t
    | inr i ↦ first_passed p (suc x) n y i (le_trans l (le_of_eq (cond-false (p x) x (first_from p (suc x) n) t)))
  ]
]

first_here : (p : ℕ → Bool) (x n : ℕ) → (p (first_from p x n) ≡ true) ⊎ (first_from p x n ≡ x + n)
unfolding first_from
first_here p x zero = inr (omega arith)
first_here p x (suc n) = elim (cases_Bool (p x)) [
  | inl t ↦ inl (ap p (cond-true (p x) x (first_from p (suc x) n) t) ∙ t)
  | inr t ↦ elim (first_here p (suc x) n) [
    | inl h ↦ inl (ap p (cond-false (p x) x (first_from p (suc x) n) t) ∙ h)
    | inr h ↦ inr (cond-false (p x) x (first_from p (suc x) n) t ∙ h ∙ omega arith)
  ]
]

-- the list may end at no index before the last one
pub last_passed : (f : ℕ) (m d : Ends) (y : ℕ) → least_end f m d ≤ y → y < last_index f m d → may_end f m d y ≡ false
unfolding last_index
last_passed f m d y h l = first_passed (may_end f m d) (least_end f m d) (1024 - least_end f m d) y h l

-- it may end there, or that is 1024
pub last_here : (f : ℕ) (m d : Ends) → pivot_at f m d ≤ 256 → (may_end f m d (last_index f m d) ≡ true) ⊎ (last_index f m d ≡ 1024)
unfolding last_index
last_here f m d q =
    let a : least_end f m d ≤ 1024 = end_most f m d 1024 (omega arith) (omega arith) in
    elim (first_here (may_end f m d) (least_end f m d) (1024 - least_end f m d)) [ inl h ↦ inl h | inr h ↦ inr (h ∙ omega arith) ]

-- the last index isn't before the first at which the list may end
pub last_start : (f : ℕ) (m d : Ends) → least_end f m d ≤ last_index f m d
unfolding last_index
last_start f m d = first_from_start (may_end f m d) (least_end f m d) (1024 - least_end f m d)

-- the pivot is below the last index
pub pivot_below_last : (f : ℕ) (m d : Ends) → pivot_at f m d < last_index f m d
unfolding last_index
pivot_below_last f m d = omega (arith, end_past_pivot f m d, first_from_start (may_end f m d) (least_end f m d) (1024 - least_end f m d))

-- ---- wide answers

any_at : (p : ℕ → Bool) (n y : ℕ) → y < n → p y ≡ true → any_below p n ≡ true
unfolding any_below
any_at p zero y l h = absurd (omega arith)
any_at p (suc n) y l h = elim (eq-or-lt_of_le {n = suc y} {m = suc n} l) [
  | inl e ↦ (let i : y ≡ n = omega arith in or_right (any_below p n) (p n) (ap p (sym i) ∙ h))
  | inr k ↦ or_left (any_below p n) (p n) (any_at p n y (omega arith) h)
]

none_below : (p : ℕ → Bool) (n : ℕ) → ((y : ℕ) → y < n → p y ≡ false) → any_below p n ≡ false
unfolding any_below
none_below p zero h = refl
none_below p (suc n) h = or_from (any_below p n) (p n) (none_below p n (λ y l. h y (omega arith))) (h n (omega arith))

-- one weight up to the last index that passes 8 makes the answer wide
pub wide_at : (f : ℕ) (m d : Ends) (x : ℕ) → x ≤ last_index f m d → 8 * 2 ^ f < (weight_ends f m d x).hi → is_wide f m d ≡ true
unfolding is_wide
wide_at f m d x l h =
    or_left (any_below (λ x. nat_lt (8 * 2 ^ f) (weight_ends f m d x).hi) (suc (last_index f m d))) (not (has_remainder f m d (last_index f m d)))
    (any_at (λ x. nat_lt (8 * 2 ^ f) (weight_ends f m d x).hi) (suc (last_index f m d)) x (omega arith) (lt-ltb (8 * 2 ^ f) (weight_ends f m d x).hi h))

-- a last index without a remainder makes the answer wide
pub wide_unended : (f : ℕ) (m d : Ends) → has_remainder f m d (last_index f m d) ≡ false → is_wide f m d ≡ true
unfolding is_wide
wide_unended f m d h =
    or_right (any_below (λ x. nat_lt (8 * 2 ^ f) (weight_ends f m d x).hi) (suc (last_index f m d))) (not (has_remainder f m d (last_index f m d))) (ap not h)

-- the answer isn't wide where no weight up to the last index passes 8, and that has a remainder
pub narrow_from : (f : ℕ) (m d : Ends) → ((x : ℕ) → x ≤ last_index f m d → (weight_ends f m d x).hi ≤ 8 * 2 ^ f) → has_remainder f m d (last_index f m d) ≡ true
    → is_wide f m d ≡ false
unfolding is_wide
narrow_from f m d h k =
    or_from (any_below (λ x. nat_lt (8 * 2 ^ f) (weight_ends f m d x).hi) (suc (last_index f m d))) (not (has_remainder f m d (last_index f m d)))
    (none_below (λ x. nat_lt (8 * 2 ^ f) (weight_ends f m d x).hi) (suc (last_index f m d)) (λ y l. le-ltb (8 * 2 ^ f) (weight_ends f m d y).hi (h y (omega arith))))
    (ap not k)

-- ---- lists

-- the list of u(0), .., u(n) has u(n) at its end
pub listed_next : {X : Type 0} (u : ℕ → X) (n : ℕ) → listed u (n + 1) ≡ listed u n ++ u n ∷ []
unfolding listed
listed_next u n = rw add-one refl

-- such a list with u(n) put after it
pub listed_more : {X : Type 0} (u : ℕ → X) (n : ℕ) (list more : List X) (w : X) → list ≡ listed u n → w ≡ u n → more ≡ list ++ w ∷ [] → more ≡ listed u (n + 1)
listed_more u n list more w e i h = h ∙ ap₂ (λ y z. y ++ z ∷ []) e i ∙ sym (listed_next u n)

-- sequences that agree below n have the same list of n entries
pub listed_same : {X : Type 0} (u v : ℕ → X) (n : ℕ) → ((k : ℕ) → k < n → u k ≡ v k) → listed u n ≡ listed v n
unfolding listed
listed_same u v zero h = refl
listed_same u v (suc n) h = ap₂ (λ y z. y ++ z ∷ []) (listed_same u v n (λ k l. h k (omega arith))) (h n (omega arith))

listed_front : {X : Type 0} (u : ℕ → X) (n : ℕ) → listed u (suc n) ≡ u 0 ∷ listed (λ k. u (suc k)) n
unfolding listed
listed_front u zero = refl
listed_front u (suc n) = ap (λ z. z ++ u (suc n) ∷ []) (listed_front u n)

reversed : {X : Type 0} (u : ℕ → X) (n : ℕ) → reverse (listed u n) ≡ listed (λ k. u (n - 1 - k)) n
unfolding listed
reversed u zero = refl
reversed u (suc n) =
    reverse-append (listed u n) (u n ∷ []) ∙ ap (λ z. u n ∷ z) (reversed u n ∙ listed_same (λ k. u (n - 1 - k)) (λ k. u (suc n - 1 - suc k)) n (λ k l. ap u (omega arith)))
    ∙ ap (λ z. z ∷ listed (λ k. u (suc n - 1 - suc k)) n) (ap u (omega arith)) ∙ sym (listed_front (λ k. u (suc n - 1 - k)) n)

-- ---- downwards from the pivot

-- the weights from the pivot down by step places, the last of them in term
pub record Descent (f : ℕ) (m d : Ends) (list : List Ends) (term : Ends) (step : ℕ) : Type 0 where
  pub weights : list ≡ listed (λ k. weight_ends f m d (pivot_at f m d - k)) (step + 1)
  pub last : term ≡ weight_ends f m d (pivot_at f m d - step)
  pub tops : (k : ℕ) → k ≤ step → (weight_ends f m d (pivot_at f m d - k)).hi ≤ 8 * 2 ^ f

each_more : (P : ℕ → Type 0) (n : ℕ) → ((x : ℕ) → x ≤ n → P x) → P (n + 1) → (x : ℕ) → x ≤ n + 1 → P x
each_more P n h k x l = elim (eq-or-lt_of_le {n = x} {m = n + 1} l) [
  | inl e ↦ subst P (sym e) k
  | inr m ↦ h x (omega arith)
]

-- the walk down begins at the pivot with the weight 1
pub descent_start : (f : ℕ) (m d term : Ends) → term ≡ ends_exact f 1 → Descent f m d (term ∷ []) term 0
unfolding listed
descent_start f m d term e =
    let w : weight_ends f m d (pivot_at f m d - 0) ≡ ends_exact f 1 = ap (weight_ends f m d) (omega arith) ∙ weight_at_pivot f m d in
    record {
      weights = ap (λ z. z ∷ []) (e ∙ sym w);
      last = e ∙ sym w;
      tops = λ k l.
          let i : k ≡ 0 = omega arith in
          rw (i, w) (omega arith);
    }

-- the weight at which the walk down stands doesn't pass 8
pub descent_top : (f : ℕ) (m d : Ends) (list : List Ends) (term : Ends) (step : ℕ) → Descent f m d list term step → term.hi ≤ 8 * 2 ^ f
descent_top f m d list term step h = subst (λ (z : Ends). z.hi ≤ 8 * 2 ^ f) (sym h.last) (h.tops step (omega arith))

-- a step down: the weight times the ratio there is the one below it
pub descent_next : (f : ℕ) (m d : Ends) (list : List Ends) (term v r : Ends) (step : ℕ) → Descent f m d list term step → step < pivot_at f m d
    → r ≡ back_ends f m d (pivot_at f m d - step) → v ≡ ends_mul f term r → v.hi ≤ 8 * 2 ^ f → Descent f m d (list ++ v ∷ []) v (step + 1)
descent_next f m d list term v r step h l er ev t =
    let w : v ≡ weight_ends f m d (pivot_at f m d - (step + 1)) = ev ∙ ap₂ (ends_mul f) h.last er ∙ sym (weight_down f m d (pivot_at f m d - step) (omega arith) (omega arith)) ∙ ap (weight_ends f m d) (omega arith) in
    record {
      weights = ap₂ (λ y z. y ++ z ∷ []) h.weights w ∙ sym (listed_next (λ k. weight_ends f m d (pivot_at f m d - k)) (step + 1));
      last = w;
      tops = each_more (λ k. (weight_ends f m d (pivot_at f m d - k)).hi ≤ 8 * 2 ^ f) step h.tops (subst (λ (z : Ends). z.hi ≤ 8 * 2 ^ f) w t);
    }

-- a step down to a weight that passes 8 makes the answer wide
pub descent_wide : (f : ℕ) (m d : Ends) (list : List Ends) (term v r : Ends) (step : ℕ) → Descent f m d list term step → step < pivot_at f m d
    → r ≡ back_ends f m d (pivot_at f m d - step) → v ≡ ends_mul f term r → 8 * 2 ^ f < v.hi → is_wide f m d ≡ true
descent_wide f m d list term v r step h l er ev t =
    let w : v ≡ weight_ends f m d (pivot_at f m d - (step + 1)) = ev ∙ ap₂ (ends_mul f) h.last er ∙ sym (weight_down f m d (pivot_at f m d - step) (omega arith) (omega arith)) ∙ ap (weight_ends f m d) (omega arith) in
    wide_at f m d (pivot_at f m d - (step + 1)) (omega (arith, pivot_below_last f m d)) (subst (λ (z : Ends). 8 * 2 ^ f < z.hi) w t)

-- a walk down to 0 has, turned around, the weights from 0 to the pivot
pub descent_done : (f : ℕ) (m d : Ends) (list : List Ends) (term : Ends) (step : ℕ) → step ≡ pivot_at f m d → Descent f m d list term step → ToPivot f m d (reverse list)
descent_done f m d list term step e h = record {
  weights = ap reverse h.weights ∙ reversed (λ k. weight_ends f m d (pivot_at f m d - k)) (step + 1)
      ∙ listed_same (λ k. weight_ends f m d (pivot_at f m d - (step + 1 - 1 - k))) (weight_ends f m d) (step + 1) (λ k l. ap (weight_ends f m d) (omega arith))
      ∙ ap (listed (weight_ends f m d)) (omega arith);
  tops = λ x l. subst (λ y. (weight_ends f m d y).hi ≤ 8 * 2 ^ f) (omega arith) (h.tops (pivot_at f m d - x) (omega arith));
}

-- ---- upwards from the pivot

-- the larger of 63 and of the index past the pivot is the first at which the list may end
pub least_from : (f : ℕ) (m d : Ends) (c x : ℕ) → c ≡ pivot_at f m d → x ≡ max (c + 1) 63 → x ≡ least_end f m d
unfolding least_end
least_from f m d c x h k = k ∙ ap (λ y. max (y + 1) 63) h

-- the list may end at an index with a remainder of at most 256
pub may_from : (f : ℕ) (m d : Ends) (x rem : ℕ) → has_remainder f m d x ≡ true → rem ≡ remainder_at f m d x → rem ≤ 256 → may_end f m d x ≡ true
unfolding may_end
may_from f m d x rem h e l = and_from (has_remainder f m d x) (nat_le (remainder_at f m d x) 256) h (le-leb (remainder_at f m d x) 256 (subst (λ z. z ≤ 256) e l))

-- the list may not end at an index without a remainder
pub may_not : (f : ℕ) (m d : Ends) (x : ℕ) → has_remainder f m d x ≡ false → may_end f m d x ≡ false
unfolding may_end
may_not f m d x h = and_left (has_remainder f m d x) (nat_le (remainder_at f m d x) 256) h
