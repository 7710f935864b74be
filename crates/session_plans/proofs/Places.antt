-- Values that are kept of families, one family after another.
use Rattle.std.proofs.Common.{◌≡◌, ◌≢◌, ℕ, zero, suc, ◌+◌, ◌-◌, ◌<◌, ◌≤◌, ◌⊎◌, inl, inr, Bool, true, false, List, [], ◌∷◌, ◌++◌, length, map, take, drop, get_or, set, replicate, All, Option, Some, None, is_some, IfSome, IsSome, refl, sym, ap, ◌∙◌, subst, arith, get_or-set_other, get_or-set_same, length-set}
use Rattle.std.proofs.lemmas.Bool.{false≢true}
use Rattle.std.proofs.lemmas.List.{append_assoc, append-nil, drop_more, drop-set-lt, ext_get_or, get_or-append_right, get_or-drop, get_or-map, get_or-replicate, get_or_past, length-append, length-map, length-replicate, map-append, take_all}
use Rattle.std.proofs.lemmas.Grind.{drop-set_at}
use Rattle.list_laws.proofs.Public.{same_or_not}
use Rattle.spares_input.specs.Cases.{CaseRows}
use Rattle.spares_input.specs.declared.rows.PartId.{PartId}
use Rattle.fleet_model.specs.Rows.{line_units}
use Rattle.family_items.proofs.Public.{line_listed, lines_count}
use Rattle.session_plans.specs.Sessions.{has_mark, marks_of, AreLater, AreOfFamilies}
use Rattle.session_plans.specs.Settling.{values_of}

-- ---- options

-- what holds of whatever value there is
pub if_some : {X : Type 0} (o : Option X) (P : X → Type 0) → ((v : X) → o ≡ Some v → P v) → IfSome o P
if_some None P h = tt
if_some (Some v) P h = h v refl

-- and of the value that there is
pub of_some : {X : Type 0} (o : Option X) (P : X → Type 0) (v : X) → o ≡ Some v → IfSome o P → P v
of_some o P v e h = subst (λ z. IfSome z P) e h

-- a value that there is
pub some_of : {X : Type 0} (o : Option X) (v : X) → o ≡ Some v → IsSome o
some_of o v e = ap is_some e

-- ---- lists of them

in_or_past : (i n : ℕ) → (i < n) ⊎ (n ≤ i)
in_or_past i n = grind arith

-- what stands at a place of a list doesn't depend on what is read past its end
pub any_default : {X : Type 0} (xs : List X) (i : ℕ) (d e : X) → i < length xs → get_or xs i d ≡ get_or xs i e
any_default [] i d e b = absurd (omega (arith, b))
any_default (x ∷ xs) zero d e b = refl
any_default (x ∷ xs) (suc i) d e b = any_default xs i d e (omega (arith, b))

-- a value that is kept has a place
pub kept_within : {X : Type 0} (values : List (Option X)) (k : ℕ) → IsSome (get_or values k None) → k < length values
kept_within values k h = elim (in_or_past k (length values)) [
  | inl b ↦ b
  | inr b ↦ absurd (false≢true (sym (ap is_some (get_or_past values k None b)) ∙ h))
]

-- the mark of a family is on if its value is kept
pub mark_is : {X : Type 0} (values : List (Option X)) (k : ℕ) → has_mark (marks_of values) k ≡ is_some (get_or values k None)
mark_is [] zero = refl
mark_is [] (suc k) = refl
mark_is (v ∷ values) zero = refl
mark_is (v ∷ values) (suc k) = mark_is values k

-- a value that is kept after one was forgotten: it isn't that one, and was kept before
pub still_kept : {X : Type 0} (values : List (Option X)) (place k : ℕ) → place < length values → IsSome (get_or (set values place None) k None)
    → (k ≢ place) × (get_or (set values place None) k None ≡ get_or values k None)
still_kept values place k b on = elim (same_or_not k place) [
  | inl here ↦ absurd (false≢true (sym (ap (λ i. is_some (get_or (set values place None) i None)) here ∙ ap is_some (get_or-set_same values place None None b)) ∙ on))
  | inr other ↦ (other, get_or-set_other values place k None None other)
]

-- ---- no value, and all values

-- n places with no value
abbrev nothing : (X : Type 0) → ℕ → List (Option X)
nothing X n = replicate n None

no_value : {X : Type 0} (n k : ℕ) → get_or (nothing X n) k None ≡ None
no_value {X} n k = elim (in_or_past k n) [
  | inl b ↦ get_or-replicate n k None None b
  | inr b ↦
      let long : length (nothing X n) ≡ n = length-replicate n None in
      get_or_past (nothing X n) k None (omega (arith, b, long))
]

-- where nothing is kept, no mark is on
pub no_marks : {X : Type 0} (values : List (Option X)) (n : ℕ) → values ≡ replicate n None → marks_of values ≡ replicate n false
no_marks {X} values n e = ap (λ (vs : List (Option X)). marks_of vs) e ∙ off n
  where
    off : (m : ℕ) → marks_of (nothing X m) ≡ replicate m false
    off zero = refl
    off (suc m) = ap (λ (ms : List Bool). false ∷ ms) (off m)

-- and nothing belongs to another family
pub none_kept : {X : Type 0} (IsOf : ℕ → X → Type 0) (c : CaseRows) (values : List (Option X)) → values ≡ replicate (length (line_units c)) None
    → AreOfFamilies IsOf c values
none_kept {X} IsOf c values e = record {
  count = (let long : length (nothing X (length (line_units c))) ≡ length (line_units c) = length-replicate (length (line_units c)) None in ap (λ (vs : List (Option X)). length vs) e ∙ long);
  each = λ k.
      if_some (get_or values k None) (IsOf (get_or (line_units c) k 0)) (λ v is.
      absurd (false≢true (sym (ap is_some (ap (λ (vs : List (Option X)). get_or vs k None) e ∙ no_value (length (line_units c)) k)) ∙ some_of (get_or values k None) v is)));
}

-- where every mark is on, each value is kept
pub all_kept : {X : Type 0} (values : List (Option X)) (n : ℕ) → marks_of values ≡ replicate n true → All IsSome values
all_kept {X} values n on k d b =
    let long : length values ≡ n = sym (length-map values (is_some {T = X})) ∙ ap (λ (ms : List Bool). length ms) on ∙ length-replicate n true in
    ap is_some (any_default values k d None b) ∙ sym (mark_is values k) ∙ ap (λ m. has_mark m k) on ∙ get_or-replicate n k true false (omega (arith, b, long))

-- and so it is where a list of values is there
pub all_some : {X : Type 0} (values : List (Option X)) (xs : List X) → values ≡ map Some xs → All IsSome values
all_some {X} values [] e k d b = absurd (omega (arith, b, ap (λ (vs : List (Option X)). length vs) e))
all_some {X} values (x ∷ xs) e k d b =
    let long : length (map (λ (v : X). Some v) (x ∷ xs)) ≡ length (x ∷ xs) = length-map (x ∷ xs) (λ (v : X). Some v) in
    let within : k < length (x ∷ xs) = omega (arith, b, ap (λ (vs : List (Option X)). length vs) e, long) in
    ap is_some (ap (λ (vs : List (Option X)). get_or vs k d) e ∙ get_or-map (λ (v : X). Some v) (x ∷ xs) k x d within)

-- the values of a list of them are the list
pub values_are : {X : Type 0} (kept : List (Option X)) (xs : List X) → map Some xs ≡ kept → values_of kept ≡ xs
values_are {X} kept xs e = sym (ap (λ (vs : List (Option X)). values_of vs) e) ∙ same xs
  where
    same : (ys : List X) → values_of (map Some ys) ≡ ys
    same [] = refl
    same (y ∷ ys) = ap (λ (zs : List X). y ∷ zs) (same ys)

-- and where all are there, the list is one of them
pub all_there : {X : Type 0} (kept : List (Option X)) → All IsSome kept → map Some (values_of kept) ≡ kept
all_there [] h = refl
all_there (None ∷ kept) h = absurd (false≢true (h 0 None (omega arith)))
all_there {X} (Some v ∷ kept) h = ap (λ (vs : List (Option X)). Some v ∷ vs) (all_there kept (λ k d b. h (suc k) d (omega (arith, b))))

-- ---- values that are moved

-- a value that was not taken yet is there as before
pub not_taken : {X : Type 0} (xs : List X) (kept before : List (Option X)) (k : ℕ) (d : Option X) → map Some xs ++ drop k kept ≡ before → length xs ≡ k
    → get_or before k d ≡ get_or kept k d
not_taken {X} xs kept before k d e n =
    let some = (λ (v : X). Some v) in
    sym (ap (λ (vs : List (Option X)). get_or vs k d) e)
    ∙ get_or-append_right (map some xs) (drop k kept) k k d (length-map xs some ∙ n) (omega arith)
    ∙ get_or-drop k kept (k - k) d ∙ ap (λ i. get_or kept i d) (omega arith)

-- past the end of a list nothing is left
drop_past : {X : Type 0} (i : ℕ) (zs : List X) → length zs ≤ i → drop i zs ≡ []
drop_past zero [] b = refl
drop_past zero (z ∷ zs) b = absurd (omega (arith, b))
drop_past (suc i) [] b = refl
drop_past (suc i) (z ∷ zs) b = drop_past i zs (omega (arith, b))

-- one more value is taken
pub taken_next : {X : Type 0} (xs ys : List X) (v : X) (kept before : List (Option X)) (k : ℕ) (d w : Option X) → map Some xs ++ drop k kept ≡ before → k < length kept
    → get_or kept k d ≡ Some v → ys ≡ xs ++ v ∷ [] → map Some ys ++ drop (k + 1) (set kept k w) ≡ before
taken_next {X} xs ys v kept before k d w moved b is more =
    let some = (λ (x : X). Some x) in
    ap (λ (zs : List X). map some zs ++ drop (k + 1) (set kept k w)) more
    ∙ ap (λ (zs : List (Option X)). zs ++ drop (k + 1) (set kept k w)) (map-append some xs (v ∷ []))
    ∙ ap (λ (zs : List (Option X)). (map some xs ++ some v ∷ []) ++ zs) (drop-set-lt (k + 1) kept k w (omega arith))
    ∙ append_assoc (map some xs) (some v ∷ []) (drop (k + 1) kept)
    ∙ ap (λ (o : Option X). map some xs ++ o ∷ drop (k + 1) kept) (sym is)
    ∙ ap (λ (zs : List (Option X)). map some xs ++ zs) (sym (drop_more kept k d b)) ∙ moved

-- all values are taken
pub taken_all : {X : Type 0} (xs : List X) (kept before : List (Option X)) (k : ℕ) → map Some xs ++ drop k kept ≡ before → length kept ≤ k → map Some xs ≡ before
taken_all {X} xs kept before k moved b =
    let taken = map (λ (x : X). Some x) xs in
    sym (append-nil taken) ∙ ap (λ (zs : List (Option X)). taken ++ zs) (sym (drop_past k kept b)) ∙ moved

-- and there are as many as places
pub as_many : {X : Type 0} (xs : List X) (kept after : List (Option X)) → map Some xs ≡ kept → length after ≡ length kept → length xs ≡ length after
as_many {X} xs kept after e long = sym (length-map xs (λ (x : X). Some x)) ∙ ap (λ (vs : List (Option X)). length vs) e ∙ sym long

-- no value is put back yet
pub put_none : {X : Type 0} (xs : List X) (kept : List (Option X)) → length xs ≡ length kept → map Some xs ++ drop (length xs) kept ≡ map Some xs
put_none {X} xs kept e =
    let taken = map (λ (x : X). Some x) xs in
    ap (λ (zs : List (Option X)). taken ++ zs) (drop_past (length xs) kept (omega (arith, e))) ∙ append-nil taken

-- one more value is put back
pub put_next : {X : Type 0} (xs ys : List X) (v : X) (kept all : List (Option X)) (i : ℕ) → map Some xs ++ drop (length xs) kept ≡ all → length xs ≤ length kept
    → xs ≡ ys ++ v ∷ [] → i ≡ length ys → (map Some ys ++ drop (length ys) (set kept i (Some v)) ≡ all) × (length ys ≤ length (set kept i (Some v)))
put_next {X} xs ys v kept all i moved within more is =
    let some = (λ (x : X). Some x) in
    let long : length xs ≡ length ys + 1 = ap (λ (zs : List X). length zs) more ∙ length-append ys (v ∷ []) in
    let next : i + 1 ≡ length xs = omega (arith, is, long) in (
      ap (λ (zs : List (Option X)). map some ys ++ zs) (drop-set_at kept i (length ys) (some v) (sym is) (omega (arith, next, within)))
          ∙ ap (λ n. map some ys ++ some v ∷ drop n kept) next
          ∙ sym (append_assoc (map some ys) (some v ∷ []) (drop (length xs) kept))
          ∙ ap (λ (zs : List (Option X)). zs ++ drop (length xs) kept) (sym (map-append some ys (v ∷ [])) ∙ ap (λ (zs : List X). map some zs) (sym more))
          ∙ moved,
      omega (arith, length-set kept i (some v), long, within),
    )

-- ---- family after family

-- the number of the unit at a place
abbrev pub number_at : List PartId → ℕ → ℕ
number_at units k = (get_or units k (record { 0 = 0 })).0

-- The values of the families before this place are kept, and no mark was turned off.
pub record AreKeptTo {X : Type 0} (IsOf : ℕ → X → Type 0) (c : CaseRows) (before values : List (Option X)) (place : ℕ) : Type 0 where
  pub are_kept : AreOfFamilies IsOf c values
  pub later : AreLater (marks_of before) (marks_of values)
  pub on : (k : ℕ) → k < place → IsSome (get_or values k None)

module _ {X : Type 0} (IsOf : ℕ → X → Type 0) (c : CaseRows) (units : List PartId) (all : map (λ (p : PartId). p.0) units ≡ line_units c) (before values : List (Option X)) (place : ℕ)
    (inside : place < length units) (h : AreKeptTo IsOf c before values place) where
  -- there is a family at the place
  pub place_within : place < length values
  place_within = omega (arith, inside, lines_count c units all, h.are_kept.count)

  at_place : get_or (line_units c) place 0 ≡ number_at units place
  at_place = sym (line_listed c units all place (record { 0 = 0 }) inside)

  -- a value that is kept at the place is that of the family
  pub kept_before : (other : Option X) → IfSome (get_or values place other) (IsOf (number_at units place))
  kept_before other =
      subst (λ (v : Option X). IfSome v (IsOf (number_at units place))) (any_default values place None other place_within)
      (subst (λ l. IfSome (get_or values place None) (IsOf l)) at_place (h.are_kept.each place))

  module _ (other value : Option X) (is : IfSome value (IsOf (number_at units place))) (stays : IsSome (get_or values place other) → IsSome value) where
    value_here : get_or (set values place value) place None ≡ value
    value_here = get_or-set_same values place value None place_within

    -- the value of the family may stand at the place
    pub kept_one : AreOfFamilies IsOf c (set values place value)
    kept_one = record {
      count = length-set values place value ∙ h.are_kept.count;
      each = λ k. (elim (same_or_not k place) [
        | inl here ↦
            subst (λ i. IfSome (get_or (set values place value) i None) (IsOf (get_or (line_units c) i 0))) (sym here)
            (subst (λ (v : Option X). IfSome v (IsOf (get_or (line_units c) place 0))) (sym value_here)
            (subst (λ l. IfSome value (IsOf l)) (sym at_place) is))
        | inr away ↦
            subst (λ (v : Option X). IfSome v (IsOf (get_or (line_units c) k 0))) (sym (get_or-set_other values place k value None away)) (h.are_kept.each k)
      ]);
    }

    -- and no mark was turned off
    pub later_one : AreLater (marks_of before) (marks_of (set values place value))
    later_one = record {
      count = length-map (set values place value) (is_some {T = X}) ∙ length-set values place value ∙ sym (length-map values (is_some {T = X})) ∙ h.later.count;
      stay = λ k on.
          let was : IsSome (get_or values k None) = sym (mark_is values k) ∙ h.later.stay k on in
          mark_is (set values place value) k ∙ (elim (same_or_not k place) [
            | inl here ↦
                let there = ap is_some (any_default values place other None place_within) ∙ ap (λ i. is_some (get_or values i None)) (sym here) ∙ was in
                ap (λ i. is_some (get_or (set values place value) i None)) here ∙ ap is_some value_here ∙ stays there
            | inr away ↦ ap is_some (get_or-set_other values place k value None away) ∙ was
          ]);
    }

    -- with this value kept, those before the next place are
    pub kept_next : IsSome value → AreKeptTo IsOf c before (set values place value) (place + 1)
    kept_next some = record {
      are_kept = kept_one;
      later = later_one;
      on = λ k b. (elim (same_or_not k place) [
        | inl here ↦ ap (λ i. is_some (get_or (set values place value) i None)) here ∙ ap is_some value_here ∙ some
        | inr away ↦ ap is_some (get_or-set_other values place k value None away) ∙ h.on k (below k place b away)
      ]);
    }
      where
        below : (i n : ℕ) → i < n + 1 → i ≢ n → i < n
        below i n b ne = grind arith

module _ {X : Type 0} (IsOf : ℕ → X → Type 0) (c : CaseRows) (units : List PartId) (all : map (λ (p : PartId). p.0) units ≡ line_units c) (before values : List (Option X)) (place : ℕ)
    (past : length units ≤ place) (h : AreKeptTo IsOf c before values place) where
  -- after the last family each value is kept
  pub each_kept : (k : ℕ) → k < length (line_units c) → IsSome (get_or values k None)
  each_kept k b = h.on k (omega (arith, b, past, lines_count c units all))

  -- and so every mark is on
  pub all_marked : marks_of values ≡ replicate (length (line_units c)) true
  all_marked =
      let n = length (line_units c) in
      let long : length (marks_of values) ≡ n = length-map values (is_some {T = X}) ∙ h.are_kept.count in
      ext_get_or false (marks_of values) (replicate n true) (long ∙ sym (length-replicate n true)) (λ k b.
      let within : k < n = omega (arith, b, long) in
      mark_is values k ∙ each_kept k within ∙ sym (get_or-replicate n k true false within))

-- ---- a vector whose slice was written

-- a list written over the beginning of another is the first so many of the result
pub written : {X : Type 0} (n : ℕ) (xs ys : List X) → length xs ≡ n → length ys ≡ n → take n (xs ++ drop (length xs) ys) ≡ xs
written n xs ys e k =
    ap (λ (zs : List _). take n (xs ++ zs)) (drop_past (length xs) ys (omega (arith, e, k))) ∙ ap (take n) (append-nil xs) ∙ take_all n xs (omega (arith, e))

-- and the same list written over itself is the result
pub rewritten : {X : Type 0} (n : ℕ) (xs ys : List X) → xs ≡ ys → n ≡ length ys → take n (xs ++ drop (length xs) ys) ≡ ys
rewritten {X} n xs ys e k = written n xs ys (ap (λ (zs : List X). length zs) e ∙ sym k) (sym k) ∙ e
