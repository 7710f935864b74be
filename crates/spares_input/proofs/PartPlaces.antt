-- The places of the parts' names as rows are added.
use Rattle.std.proofs.Common.{◌≡◌, ℕ, ◌+◌, List, [], ◌∷◌, ◌++◌, length, Bool, true, false, not, ◌||◌, cond, ◌<◌, take, length-take-le, Option, Some, None, IfSome, is_none, bytes_eq, refl, sym, ap, ap₂, subst, ◌∙◌, arith}
use Rattle.std.specs.HashMap.{HashMap, get, Updates}
use Rattle.std.specs.List.{list_any, IsDistinct}
use Rattle.std.specs.Option.{option_and_then, option_map, option_or}
use Rattle.std.specs.Cmp.Lexicographic.{nat_list_eq_equiv}
use Rattle.std.proofs.lemmas.List.{length-map}
use Rattle.std.specs.List.{position_from}
use Rattle.std.proofs.lemmas.Iterator.Adapters.{position_from-zero}
use Rattle.std.proofs.lemmas.Map.Keys.{IsDistinct-push}
use Rattle.std.proofs.lemmas.Slice.Eq.{bytes_eq-Decides}
use Rattle.spares_input.specs.Frames.{is_among, part_at, part_names, place_of}
use Rattle.spares_input.specs.Building.{AreDistinct, ArePlaces}
use Rattle.spares_input.specs.declared.rows.PartRow.{PartRow}
use Rattle.spares_input.specs.declared.rows.PartId.{PartId}
use Rattle.spares_input.proofs.PartFacts.{part_named, part_names_more}

abbrev number_of : Option PartId → Option ℕ
number_of place = option_map (λ (p : PartId). p.0) place

none_first : (found rest : Bool) (i : ℕ) (o : Option ℕ) → is_none o ≡ not rest → is_none (cond found (Some i) o) ≡ not (found || rest)
none_first true rest i o same = refl
none_first false rest i o same = same

none_among : {X : Type 0} (test : X → Bool) (i : ℕ) (xs : List X) → is_none (position_from test i xs) ≡ not (list_any test xs)
none_among test i [] = refl
none_among test i (x ∷ xs) = none_first (test x) (list_any test xs) i _ (none_among test (i + 1) xs)

none_kept : (o : Option PartId) → is_none o ≡ is_none (number_of o)
none_kept None = refl
none_kept (Some p) = refl

is_none_is : {X : Type 0} (o : Option X) → is_none o ≡ true → o ≡ None
is_none_is None e = refl
is_none_is (Some x) e = cc

not_true : (b : Bool) → not b ≡ true → b ≡ false
not_true true e = cc
not_true false e = refl

-- a name has no place exactly if it isn't among the names
pub no_place : (name : List ℕ) (names : List (List ℕ)) → is_none (place_of name names) ≡ not (is_among name names)
no_place name names = ap is_none (position_from-zero (bytes_eq name) names) ∙ none_among (bytes_eq name) 0 names

or_none : {X : Type 0} (o : Option X) → option_or o None ≡ o
or_none None = refl
or_none (Some x) = refl

first_or : (found : Bool) (i : ℕ) (o later : Option ℕ) → cond found (Some i) (option_or o later) ≡ option_or (cond found (Some i) o) later
first_or true i o later = refl
first_or false i o later = refl

-- the place that a test finds once an element follows
found_more : {X : Type 0} (test : X → Bool) (i : ℕ) (xs : List X) (y : X)
    → position_from test i (xs ++ y ∷ []) ≡ option_or (position_from test i xs) (cond (test y) (Some (i + length xs)) None)
found_more test i [] y =
    let same : i ≡ i + 0 = omega arith in
    ap (λ n. cond (test y) (Some n) None) same
found_more test i (x ∷ xs) y =
    let next : (i + 1) + length xs ≡ i + length (x ∷ xs) = omega arith in
    let after = found_more test (i + 1) xs y ∙ ap (λ n. option_or (position_from test (i + 1) xs) (cond (test y) (Some n) None)) next in
    ap (cond (test x) (Some i)) after ∙ first_or (test x) i (position_from test (i + 1) xs) _

-- the place of a name once another name follows
place_more : (name key : List ℕ) (names : List (List ℕ))
    → place_of name (names ++ key ∷ []) ≡ option_or (place_of name names) (cond (bytes_eq name key) (Some (length names)) None)
place_more name key names =
    let here : 0 + length names ≡ length names = omega arith in
    position_from-zero (bytes_eq name) (names ++ key ∷ []) ∙ found_more (bytes_eq name) 0 names key
    ∙ ap₂ (λ o n. option_or o (cond (bytes_eq name key) (Some n) None)) (sym (position_from-zero (bytes_eq name) names)) here

module _ {S : Type 0} (before : HashMap (List ℕ) PartId S) (parts : List PartRow) (k : ℕ) (r : PartRow) (within : k < length parts)
    (row : r ≡ part_at parts k) (old : ArePlaces before (take k parts)) where
  abbrev names : List (List ℕ)
  names = part_names (take k parts)

  count : length names ≡ k
  count = length-map (take k parts) (λ (x : PartRow). x.name) ∙ length-take-le k parts (omega arith)

  -- whether the map has a name says whether it stands before
  pub none_before : is_none (get bytes_eq before r.name) ≡ not (is_among r.name (part_names (take k parts)))
  none_before = none_kept (get bytes_eq before r.name) ∙ ap is_none (old r.name) ∙ no_place r.name names

  -- the names stay distinct if the map has no place for the next part's name
  pub still_distinct : AreDistinct (take k parts) → is_none (get bytes_eq before r.name) ≡ true → AreDistinct (take (k + 1) parts)
  still_distinct distinct none =
      subst (IsDistinct bytes_eq) (part_names_more parts k r within row)
      (IsDistinct-push nat_list_eq_equiv names r.name distinct (not_true (is_among r.name names) (sym none_before ∙ none)))

  -- the map with the next part's place has all places up to it
  pub places_more : (after : HashMap (List ℕ) PartId S) (place : PartId) → place.0 ≡ k → Updates bytes_eq before after r.name (Some place)
      → is_none (get bytes_eq before r.name) ≡ true → ArePlaces after (take (k + 1) parts)
  places_more after place at updates none = λ name. by name (bytes_eq r.name name) refl
    where
      more : (name : List ℕ) → place_of name (part_names (take (k + 1) parts))
          ≡ option_or (place_of name names) (cond (bytes_eq r.name name) (Some k) None)
      more name =
          ap (place_of name) (sym (part_names_more parts k r within row)) ∙ place_more name r.name names
          ∙ rw (count, nat_list_eq_equiv.symm name r.name) refl

      by : (name : List ℕ) (b : Bool) → bytes_eq r.name name ≡ b
          → number_of (get bytes_eq after name) ≡ place_of name (part_names (take (k + 1) parts))
      by name true e =
          let same : r.name ≡ name = (bytes_eq-Decides r.name name).0 e in
          let absent : place_of name names ≡ None = subst (λ n. place_of n names ≡ None) same (sym (old r.name) ∙ ap number_of (is_none_is (get bytes_eq before r.name) none)) in
          let here : get bytes_eq after name ≡ Some place = updates.0 name ∙ rw e refl in
          ap number_of here ∙ ap Some at ∙ sym (more name ∙ rw (absent, e) refl)
      by name false e =
          let here : get bytes_eq after name ≡ get bytes_eq before name = updates.0 name ∙ rw e refl in
          ap number_of here ∙ old name ∙ sym (more name ∙ rw e (or_none (place_of name names)))

-- the place of the part of a name, if any, by the map
pub line_by_name : {S : Type 0} (parts : List PartRow) (places : HashMap (List ℕ) PartId S) (name : Option (List ℕ)) → ArePlaces places parts
    → number_of (option_and_then (get bytes_eq places) name) ≡ option_and_then (λ n. place_of n (part_names parts)) name
line_by_name parts places None are = refl
line_by_name parts places (Some name) are = are name

-- the part found for a name has this name
pub part_found : (parts : List PartRow) (name : List ℕ) (found : Option PartId) → number_of found ≡ place_of name (part_names parts)
    → IfSome found (λ p. (p.0 < length parts) × ((part_at parts p.0).name ≡ name))
part_found parts name None place = tt
part_found parts name (Some p) place = part_named parts name p.0 (sym place)
