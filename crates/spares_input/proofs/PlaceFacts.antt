-- Rows at the places of their pairs.
use Rattle.std.proofs.Common.{◌≡◌, ◌≢◌, ◌==◌, ℕ, ◌+◌, ◌*◌, ◌<◌, ◌≤◌, mul-le-mul, ◌∷◌, [], ◌++◌, List, take, length, get_or, set, map, replicate, count_by, Bool, true, false, Option, Some, None, slice_get, is_some, unwrap_or, Result, Ok, Err, IfOk, Vec, Global, refl, sym, ap, subst, ◌∙◌, inl, inr, arith, if◌then◌else◌, get_or-set_other, get_or-set_same, length-set}
use Rattle.std.specs.List.{All}
use Rattle.std.specs.Option.{option_or, option_map}
use Rattle.std.proofs.lemmas.List.{take_more, map-append, length-replicate, length-map, get_or-replicate}
use Rattle.std.proofs.lemmas.List.Elements.{All-head, All-tail}
use Rattle.std.proofs.lemmas.List.Folds.{find-append, sum_by-replicate}
use Rattle.std.proofs.lemmas.List.FromFn.{fill_by_all, get_or-map-range_with_len}
use Rattle.std.proofs.lemmas.List.Sums.{sum_by-set, count_by-le-length}
use Rattle.std.proofs.lemmas.Option.{get_or_from_slice_get, slice_get-get_or, slice_get-map, unwrap_or-slice_get, same_Some}
use Rattle.std.proofs.lemmas.Bool.{cases_eq, eq-eqb, eqb-true, ne_eqb, false≢true}
use mir.Val.{Fits}
use mir.Syntax.{w32}
use Rattle.spares_input.specs.First.{first}
use Rattle.spares_input.specs.Pairs.{row_at, has_row, rows_in_order}
use Rattle.spares_input.specs.Building.{ArePlaced, vacant}
use Rattle.spares_input.proofs.Firsts.{first_none, first_same}

none_of : {A : Type 0} (o : Option A) → is_some o ≡ false → o ≡ None
none_of None h = refl
none_of (Some x) h = absurd (false≢true (sym h))

or_none : {A : Type 0} (o : Option A) → option_or o None ≡ o
or_none None = refl
or_none (Some x) = refl

module _ {A : Type 0} (place : A → ℕ) where
  row_at_push : (rows : List A) (r : A) (i : ℕ) → row_at place (rows ++ r ∷ []) i ≡ option_or (row_at place rows i) (if place r == i then Some r else None)
  unfolding row_at
  row_at_push rows r i = find-append (λ x. place x == i) rows (r ∷ [])

  take_at : (rows : List A) (k : ℕ) (none r : A) → k < length rows → r ≡ get_or rows k none → take (k + 1) rows ≡ take k rows ++ r ∷ []
  take_at rows k none r within row = rw (take_more rows k none within, ← row) refl

  -- what is kept at a place
  pub kept_at : (count : ℕ) (rows : List A) (slots : List (Option A)) (p : ℕ) (o : Option A)
      → ArePlaced place count rows slots → p < count → o ≡ get_or slots p o → o ≡ row_at place rows p
  kept_at count rows slots p o placed h e = e ∙ get_or_from_slice_get slots p (row_at place rows p) o (placed.each p h)

  -- whether the pair of a row came before
  pub has_before : (rows : List A) (k : ℕ) (none r : A) (p : ℕ) (o : Option A) (b : Bool) → r ≡ get_or rows k none → p ≡ place r
      → o ≡ row_at place (take k rows) p → is_some o ≡ b → has_row place (take k rows) (place (get_or rows k none)) ≡ b
  has_before rows k none r p o b row at kept h = rw (← row, ← at, ← kept) h

  -- of no rows none is kept at any place
  pub placed_none : (count : ℕ) (slots : List (Option A)) → slots ≡ replicate count None → ArePlaced place count [] slots
  unfolding row_at
  placed_none count slots e =
      let len : length slots ≡ count = rw e (length-replicate count None) in record {
        whole = len;
        each = λ i h.
            let within : i < length slots = omega arith in
            slice_get-get_or slots i None within ∙ (ap (λ (o : Option A). Some o) (rw e (get_or-replicate count i None None h)));
      }

  -- with the next row put at its place, at which none was kept, the rows so far stand at their places
  pub placed_more : (count : ℕ) (rows : List A) (k : ℕ) (none r : A) (slots : List (Option A)) (p : ℕ) (o : Option A)
      → k < length rows → r ≡ get_or rows k none → p ≡ place r → p < count → ArePlaced place count (take k rows) slots
      → o ≡ row_at place (take k rows) p → is_some o ≡ false → ArePlaced place count (take (k + 1) rows) (set slots p (Some r))
  placed_more count rows k none r slots p o inside row at within placed kept new =
      let empty : row_at place (take k rows) p ≡ None = sym kept ∙ none_of o new in
      let now : (i : ℕ) → row_at place (take (k + 1) rows) i ≡ option_or (row_at place (take k rows) i) (if place r == i then Some r else None) =
      λ i. rw (take_at rows k none r inside row) (row_at_push (take k rows) r i) in
      let len : length (set slots p (Some r)) ≡ count = rw length-set placed.whole in record {
        whole = len;
        each = λ i h.
            let room : i < length (set slots p (Some r)) = omega arith in
            let read = slice_get-get_or (set slots p (Some r)) i None room in
            elim (cases_eq i p) [
              | inl e ↦
                  let here : row_at place (take (k + 1) rows) p ≡ Some r = now p ∙ rw (empty, eq-eqb (place r) p (sym at)) refl in
                  let P : ℕ → Type 0 = λ j. slice_get (set slots p (Some r)) j ≡ Some (row_at place (take (k + 1) rows) j) in
                  let room_p : p < length (set slots p (Some r)) = omega (arith, len) in
                  let inside_p : p < length slots = omega (arith, placed.whole) in
                  subst P (sym e) (slice_get-get_or (set slots p (Some r)) p None room_p ∙ rw (get_or-set_same, here) refl)
              | inr ne ↦
                  let apart : i ≢ p = ne in
                  let there : row_at place (take (k + 1) rows) i ≡ row_at place (take k rows) i =
                  now i ∙ (rw (ne_eqb (place r) i (λ e. ne (sym e ∙ sym at))) (or_none (row_at place (take k rows) i))) in
                  let old : i < length slots = omega (arith, placed.whole) in
                  read ∙ (rw (get_or-set_other, there) (sym (slice_get-get_or slots i None old) ∙ placed.each i h))
            ];
      }

  -- where nothing is kept no place is taken
  pub taken_none : (count : ℕ) (slots : List (Option A)) → slots ≡ replicate count None → count_by is_some slots ≡ 0
  taken_none count slots e = rw e (sum_by-replicate (λ (o : Option A). if is_some o then 1 else 0) count None ∙ omega arith)

  -- where a row is put at a place with nothing kept, one place more is taken
  pub taken_more : (slots : List (Option A)) (k p : ℕ) (r : A) (o : Option A) → p < length slots → o ≡ get_or slots p o → is_some o ≡ false
      → count_by is_some slots ≡ k → count_by is_some (set slots p (Some r)) ≡ k + 1
  taken_more slots k p r o within read new before =
      let counted = sum_by-set (λ (o : Option A). if is_some o then 1 else 0) slots p (Some r) o within in
      let one : ℕ = 1 in
      let nothing : ℕ = 0 in
      let free : (if is_some (get_or slots p o) then one else nothing) ≡ nothing = rw (← read, new) refl in
      omega (arith, counted, free, before)

  -- the places of a case are so few that their count, and the number of the row of its last one, fit 32 bits
  pub few_taken : (slots : List (Option A)) (k parts sites : ℕ) → count_by is_some slots ≡ k → length slots ≡ parts * sites
      → parts ≤ 2000 → sites ≤ 16 → Fits w32 k × Fits w32 (k + 2)
  few_taken slots k parts sites taken whole few_parts few_sites =
      let pairs : parts * sites ≤ 2000 * 16 = mul-le-mul {n₁ = parts} {m₁ = sites} {n₂ = 2000} {m₂ = 16} few_parts few_sites in
      let fewer = count_by-le-length is_some slots in
      (omega (arith, pairs, fewer, taken, whole), omega (arith, pairs, fewer, taken, whole))

  -- a place with nothing kept is one without a row
  pub vacant_same : {E : Type 0} (fault : ℕ → E) (count : ℕ) (rows : List A) (slots : List (Option A)) → ArePlaced place count rows slots
      → first (vacant fault slots) (length slots) ≡ first (λ i. if has_row place rows i then None else Some (fault i)) count
  vacant_same fault count rows slots placed =
      rw placed.whole (first_same (vacant fault slots) (λ i. if has_row place rows i then None else Some (fault i)) count (λ k h. rw (placed.each k h) refl))

  read_back : (o : Option A) (p : Option A) → ◌≡◌ {A = Option (Option A)} (option_map (λ x. Some x) o) (Some p) → o ≡ p
  read_back None p h = cc
  read_back (Some x) p h = cc

  -- the rows of all places in their order
  pub in_order : (none : A) (count : ℕ) (rows found : List A) (slots : List (Option A)) → ArePlaced place count rows slots
      → map (λ x. Some x) found ≡ slots → found ≡ rows_in_order place none count rows
  in_order none count rows found slots placed e =
      let len : length found ≡ count = sym (length-map found (λ x. Some x)) ∙ (ap (λ (t : List (Option A)). length t) e ∙ placed.whole) in
      fill_by_all (λ i. unwrap_or (row_at place rows i) none) found count none len (λ k h.
      let same : slice_get found k ≡ row_at place rows k =
      read_back (slice_get found k) (row_at place rows k) (sym (slice_get-map (λ x. Some x) found k) ∙ (ap (λ (t : List (Option A)). slice_get t k) e ∙ placed.each k h)) in
      sym (unwrap_or-slice_get found k none) ∙ rw same refl)

  found_go : (P : A → Type 0) (i : ℕ) (b : Bool) (x : A) (rest : Option A) (r : A) → place x == i ≡ b → P x → (rest ≡ Some r → P r × (place r ≡ i))
      → (if b then Some x else rest) ≡ Some r → P r × (place r ≡ i)
  found_go P i true x rest r e h k found =
      let same : x ≡ r = same_Some x r found in
      subst (λ y. P y × (place y ≡ i)) same (h, eqb-true (place x) i e)
  found_go P i false x rest r e h k found = k found

  -- the row at a place is one of the rows, and of that place
  pub row_at_found : (P : A → Type 0) (rows : List A) (i : ℕ) (r : A) → All P rows → row_at place rows i ≡ Some r → P r × (place r ≡ i)
  unfolding row_at
  row_at_found P [] i r h found = cc
  row_at_found P (x ∷ xs) i r h found =
      found_go P i (place x == i) x (row_at place xs i) r refl (All-head P x xs h) (λ f. row_at_found P xs i r (All-tail P x xs h) f) found

there : {A E : Type 0} (o : Option A) (x : E) → (if is_some o then None else Some x) ≡ None → (r : A) × (o ≡ Some r)
there None x h = cc
there (Some r) x h = (r, refl)

-- where no place lacks a row, what stands at a place is one of the rows, and of that place
pub at_place : {A E : Type 0} (place : A → ℕ) (fault : ℕ → E) (P : A → Type 0) (rows : List A) (none : A) (count : ℕ) → All P rows
    → first (λ i. if has_row place rows i then None else Some (fault i)) count ≡ None → (i : ℕ) → i < count
    → P (get_or (rows_in_order place none count rows) i none) × (place (get_or (rows_in_order place none count rows) i none) ≡ i)
at_place place fault P rows none count valid all i within =
    let row = there (row_at place rows i) (fault i) (first_none (λ k. if has_row place rows k then None else Some (fault k)) count i all within) in
    let read : get_or (rows_in_order place none count rows) i none ≡ row.0 =
    get_or-map-range_with_len (λ k. unwrap_or (row_at place rows k) none) 0 count i i none within (omega arith) ∙ ap (λ o. unwrap_or o none) row.1 in
    rw read (row_at_found place P rows i row.0 valid row.1)

module _ {A E : Type 0} (fault : ℕ → E) (slots : List (Option A)) (i : ℕ) where
  -- a place at which nothing is kept has its fault
  pub vacant_here : i < length slots → get_or slots i None ≡ None → vacant fault slots i ≡ Some (fault i)
  vacant_here h e = rw (slice_get-get_or slots i None h, e) refl

  -- a place at which a row is kept has no fault
  pub vacant_not : (r : A) → i < length slots → get_or slots i None ≡ Some r → vacant fault slots i ≡ None
  vacant_not r h e = rw (slice_get-get_or slots i None h, e) refl

-- with the row of the next place appended, the rows found are those of one place more
pub found_more : {A : Type 0} (found : List A) (slots : List (Option A)) (i : ℕ) (r : A) → i < length slots → get_or slots i None ≡ Some r
    → map (λ x. Some x) found ≡ take i slots → map (λ x. Some x) (found ++ r ∷ []) ≡ take (i + 1) slots
found_more found slots i r h e before =
    map-append (λ x. Some x) found (r ∷ []) ∙ (rw before (sym (rw (take_more slots i None h, e) refl)))

-- where each place has a row, the rows found are the rows by place
pub all_in_order : {A E : Type 0} (place : A → ℕ) (r : Result (Vec A Global) E) (none : A) (count : ℕ) (rows : List A) (slots : List (Option A)) → ArePlaced place count rows slots
    → IfOk r (λ v. map (λ x. Some x) v.items ≡ slots) → IfOk r (λ v. v.items ≡ rows_in_order place none count rows)
all_in_order place (Ok v) none count rows slots placed h = in_order place none count rows v.items slots placed h
all_in_order place (Err e) none count rows slots placed h = tt
