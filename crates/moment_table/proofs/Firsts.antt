-- The rows that the first weights make, and what is put over them.
use Rattle.std.proofs.Common.{◌≡◌, ℕ, ◌+◌, ◌*◌, ◌<◌, ◌≤◌, ◌^◌, List, Option, Some, None, Result, Ok, Err, IfOk, IfNone, IfSome, drop, get_or, refl, set, suc, sym, ap, ap₂, zero, ◌∙◌, subst, arith}
use Rattle.std.proofs.lemmas.List.{drop-drop, drop-set-lt, get_or-drop}
use Rattle.fixed_interval.specs.Ends.{Ends, ends_add, ends_div, ends_exact, ends_less, ends_mul, ends_times}
use Rattle.series_bounds.specs.Profile.{pivot_at}
use Rattle.series_bounds.specs.Answer.{IsBeginning, Sized, at_place}
use Rattle.series_bounds.proofs.Public.{sum_known, weight_listed}
use Rattle.moment_table.specs.declared.kinds.Row.{Row}
use Rattle.moment_table.specs.Stored.{AreStoredTo, AreRowsTo, stored_row}
use Rattle.moment_table.specs.Profile.{below_ends, chance_ends, ebo_ends, excess_ends, known_row, table_rows, tail_ends, vbo_ends}
use Rattle.moment_table.specs.Rows.{at_stock}
use Rattle.moment_table.specs.Running.{AreFirst, all_weights}
use Rattle.moment_table.proofs.Enclosure.{row_of_known}

-- ---- rows from lists whose first weights are the same

module _ (f : ℕ) (m v : Ends) (a b : List Ends) (sum : Ends) where
  -- the entries below n are the same
  abbrev Agree : ℕ → Type 0
  Agree n = (x : ℕ) → x < n → at_place a x ≡ at_place b x

  below_same : (n : ℕ) → Agree n → below_ends f a sum n ≡ below_ends f b sum n
  unfolding below_ends chance_ends
  below_same zero h = refl
  below_same (suc n) h = ap₂ ends_add (below_same n (λ x l. h x (omega (arith, l)))) (ap (λ (z : Ends). ends_div f z sum) (h n (omega arith)))

  tail_same : (s : ℕ) → Agree (suc s) → tail_ends f a sum s ≡ tail_ends f b sum s
  unfolding tail_ends
  tail_same s h = ap (ends_less (ends_exact f 1)) (below_same (suc s) h)

  ebo_same : (s : ℕ) → Agree s → ebo_ends f m a sum s ≡ ebo_ends f m b sum s
  unfolding ebo_ends
  ebo_same zero h = refl
  ebo_same (suc s) h = ap₂ ends_less (ebo_same s (λ x l. h x (omega (arith, l)))) (tail_same s h)

  vbo_same : (s : ℕ) → Agree s → vbo_ends f m v a sum s ≡ vbo_ends f m v b sum s
  unfolding vbo_ends
  vbo_same zero h = refl
  vbo_same (suc s) h =
      ap₂ ends_less (vbo_same s (λ x l. h x (omega (arith, l))))
      (ap₂ (λ (y t : Ends). ends_mul f (ends_add (ends_times y 2) t) (ends_less (ends_exact f 1) t)) (ebo_same (suc s) h) (tail_same s h))

  stored_same : (s : ℕ) → Agree s → stored_row (known_row f m v a sum s) ≡ stored_row (known_row f m v b sum s)
  unfolding known_row
  stored_same s h = rw (ebo_same s h, vbo_same s h) refl

  row_same : (s : ℕ) → Agree (suc s) → known_row f m v a sum s ≡ known_row f m v b sum s
  unfolding known_row
  row_same s h = rw (ebo_same s (λ x l. h x (omega (arith, l))), vbo_same s (λ x l. h x (omega (arith, l))), tail_same s h) refl

-- ---- the first weights

module _ (f : ℕ) (m v : Ends) (n : ℕ) (list : List Ends) (sum : Ends) (h : IsBeginning f m (excess_ends f m v) n list sum) (p : 0 < m.hi) (k : n ≤ 63) where
  all : List Ends
  all = all_weights f m (excess_ends f m v)

  agree : (x : ℕ) → x < n → at_place list x ≡ at_place all x
  unfolding all
  agree x i = weight_listed f m (excess_ends f m v) (at_place list x) x (omega (arith, i, k)) (h.weights x i)

  all_rows : (s : ℕ) → s ≤ n → known_row f m v all sum s ≡ at_stock (table_rows f m v) s
  unfolding all
  all_rows s l =
      row_of_known f m v (pivot_at f m (excess_ends f m v)) (all_weights f m (excess_ends f m v)) sum
      (known_row f m v (all_weights f m (excess_ends f m v)) sum s) s (omega (arith, l, k)) p (sum_known f m (excess_ends f m v) sum h.sum_is) refl

  -- the first rows from a beginning of the weights with their sum are the table's
  pub first_rows : AreRowsTo f m v n (known_row f m v list sum)
  first_rows s l = row_same f m v list all sum s (λ x i. agree x (omega (arith, i, l))) ∙ all_rows s (omega (arith, l))

  -- the next one too, but for its tail
  pub first_stored : AreStoredTo f m v n (known_row f m v list sum)
  first_stored s l =
      stored_same f m v list all sum s (λ x i. agree x (omega (arith, i, l))) ∙ ap (λ (z : Row f). stored_row z) (all_rows s l)

-- the weights of a beginning are at most 8
pub first_weights : (f : ℕ) (m d : Ends) (n : ℕ) (list : List Ends) (sum : Ends) → IsBeginning f m d n list sum → AreFirst f n list
first_weights f m d n list sum h = record {
  enough = h.enough;
  tops = λ x l. subst (λ (z : Ends). z.hi ≤ 8 * 2 ^ f) (sym (h.weights x l)) (h.tops x l);
}

-- all weights are first ones
pub all_first : (f : ℕ) (list : List Ends) (sum : Ends) → Sized f list sum → AreFirst f 64 list
all_first f list sum h = record { enough = h.enough; tops = λ x l. h.tops x (omega (arith, l, h.enough)) }

-- what is known where nothing is found
pub none_then : {B E P Q : Type 0} (x : Result (Option B) E) → (P → Q) → IfOk x (λ y. IfNone y P) → IfOk x (λ y. IfNone y Q)
none_then (Ok None) k h = k h
none_then (Ok (Some b)) k h = h
none_then (Err e) k h = h

-- what is known where something is found
pub some_then : {B E : Type 0} {P Q : B → Type 0} (x : Result (Option B) E) → ((b : B) → P b → Q b) → IfOk x (λ y. IfSome y P) → IfOk x (λ y. IfSome y Q)
some_then (Ok None) k h = h
some_then (Ok (Some b)) k h = k b h
some_then (Err e) k h = h

-- ---- what is put over the weights

module _ {X : Type 0} (s : ℕ) (found weights : List X) (same : drop s found ≡ drop s weights) where
  -- what is found at place s is the weight there
  pub still_there : (w : X) → w ≡ get_or found s w → w ≡ get_or weights s w
  still_there w e =
      let here : s + 0 ≡ s = omega arith in
      e ∙ ap (λ n. get_or found n w) (sym here) ∙ sym (get_or-drop s found 0 w) ∙ ap (λ rest. get_or rest 0 w) same ∙ get_or-drop s weights 0 w ∙ ap (λ n. get_or weights n w) here

  -- where a value is put over the weight at place s, the weights behind it stay
  pub rest_next : (e : X) → drop (s + 1) (set found s e) ≡ drop (s + 1) weights
  rest_next e =
      drop-set-lt (s + 1) found s e (omega arith) ∙ sym (drop-drop 1 s found) ∙ ap (drop 1) same ∙ drop-drop 1 s weights
