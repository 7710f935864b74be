-- A frame breaks no rule, nor do the rates of a case; and shop units are told by the places of their line units.
use Rattle.std.proofs.Common.{◌≡◌, ◌==◌, ◌⊎◌, inl, inr, ℕ, zero, suc, ◌+◌, ◌*◌, ◌/◌, ◌%◌, ◌<◌, ◌≤◌, List, [], ◌∷◌, take, length, get_or, map, filter, count_by, Bool, true, false, cond, Option, Some, None, Ok, unwrap_or, refl, sym, ap, subst, ◌∙◌, arith, bytes_eq}
use Rattle.std.specs.Prelude.{is_none, is_some, not}
use Rattle.std.specs.List.{find, list_any, IsDistinct, position_or_len, take-map}
use Rattle.std.specs.Option.{option_and_then, option_map_or}
use Rattle.std.proofs.lemmas.Bool.{false≢true, false_from_ne_true, lt-leb, ne_eqb, eq-eqb}
use Rattle.std.proofs.lemmas.List.{get_or-map, get_or-take, length-map, length-take}
use Rattle.std.proofs.lemmas.List.Folds.{list_any_at}
use Rattle.std.proofs.lemmas.List.FromFn.{fill_by_all}
use Rattle.std.proofs.lemmas.Grind.{common_steps}
use Rattle.std.proofs.lemmas.List.Sums.{count_by_more_yes, fails_before_first, sum_by-take-le}
use Rattle.std.proofs.lemmas.Nat.{div-add-mod', div_below, mod_below}
use Rattle.std.proofs.lemmas.Slice.Eq.{bytes_eq-Decides}
use Rattle.list_laws.proofs.Public.{at_each}
use Rattle.spares_input.specs.First.{first}
use Rattle.spares_input.specs.Rows.{is_line, no_site, no_part, no_rate}
use Rattle.spares_input.specs.Frames.{FrameRows, IsFrame, part_at, part_names, place_of, is_depot, is_base, is_shop_of, line_of, site_fault, kinds_fault, double_part, shop_fault, parent_fault, frame_fault, frame_of, sites_in_order}
use Rattle.spares_input.specs.Pairs.{row_at, has_row, rows_in_order}
use Rattle.spares_input.specs.Cases.{CaseRows, frame_rows, rate_place, double_rate, missing_rate, rates_fault, case_of, IsCase}
use Rattle.spares_input.specs.declared.rows.SiteRow.{SiteRow}
use Rattle.spares_input.specs.declared.rows.PartRow.{PartRow}
use Rattle.spares_input.specs.declared.rows.RateRow.{RateRow}
use Rattle.spares_input.proofs.PartFacts.{length_shop_units, part_named}

-- where no place has a fault, there is no first one
pub no_first : {A : Type 0} (at : ℕ → Option A) (n : ℕ) → ((k : ℕ) → k < n → at k ≡ None) → first at n ≡ None
unfolding first
no_first at zero h = refl
no_first at (suc n) h = rw (no_first at n (λ k lt. h k (omega (arith, lt))), h n (omega arith)) refl

-- ---- the depot stands first

bases_same : (xs : List SiteRow) → ((i : ℕ) → i < length xs → (get_or xs i no_site).depot ≡ false) → (filter is_depot xs ≡ []) × (filter is_base xs ≡ xs)
bases_same [] h = (refl, refl)
bases_same (x ∷ xs) h =
    let rest = bases_same xs (λ i lt. h (suc i) (omega (arith, lt))) in
    let here : x.depot ≡ false = h 0 (omega arith) in
    (rw (here, rest.0) refl, rw (here, rest.1) refl)

-- sites of which the first alone is the depot are in order as they stand
pub stand_in_order : (xs : List SiteRow) → ((i : ℕ) → i < length xs → (get_or xs i no_site).depot ≡ (i == 0)) → sites_in_order xs ≡ xs
stand_in_order [] h = refl
stand_in_order (x ∷ xs) h =
    let rest = bases_same xs (λ i lt. h (suc i) (omega (arith, lt)) ∙ ne_eqb (suc i) 0 (λ e. omega (arith, e))) in
    let here : x.depot ≡ true = h 0 (omega arith) in
    rw (here, rest.0, rest.1) refl

-- ---- names that stand once

flip_false : (x y : List ℕ) → bytes_eq x y ≡ false → bytes_eq y x ≡ false
flip_false x y h = false_from_ne_true (bytes_eq y x) (λ t. false≢true (sym h ∙ (bytes_eq-Decides x y).1 (sym ((bytes_eq-Decides y x).0 t))))

fresh_in : (names : List (List ℕ)) (k : ℕ) → IsDistinct bytes_eq names → k < length names → list_any (bytes_eq (get_or names k [])) (take k names) ≡ false
unfolding IsDistinct
fresh_in [] k h lt = absurd (omega (arith, lt))
fresh_in (x ∷ xs) zero h lt = refl
fresh_in (x ∷ xs) (suc k) h lt =
    rw (flip_false x (get_or xs k []) (at_each (λ y. bytes_eq x y ≡ false) xs h.0 k [] (omega (arith, lt))), fresh_in xs k h.1 (omega (arith, lt))) refl

fresh_by : {A : Type 0} (name : A → List ℕ) (xs : List A) (d : A) (k : ℕ) → IsDistinct bytes_eq (map name xs) → k < length xs → list_any (bytes_eq (name (get_or xs k d))) (map name (take k xs)) ≡ false
fresh_by name xs d k h lt =
    let within : k < length (map name xs) = omega (arith, lt, length-map xs name) in
    ap (λ (n : List ℕ). list_any (bytes_eq n) (map name (take k xs))) (sym (get_or-map name xs k d [] lt))
    ∙ ap (λ (ns : List (List ℕ)). list_any (bytes_eq (get_or (map name xs) k [])) ns) (sym (take-map name k xs))
    ∙ fresh_in (map name xs) k h within

module _ (f : FrameRows) (v : IsFrame f) where
  no_site_fault : (k : ℕ) → k < length f.sites → site_fault f.sites k ≡ None
  no_site_fault zero lt = rw (fresh_by (λ s. s.name) f.sites no_site 0 v.distinct_sites lt, v.depot) refl
  no_site_fault (suc k) lt = rw (fresh_by (λ s. s.name) f.sites no_site (suc k) v.distinct_sites lt, v.bases (suc k) (omega arith) lt) refl

  no_kinds_fault : kinds_fault f.sites ≡ None
  no_kinds_fault =
      let two = v.fewest_sites in
      let depot = list_any_at is_depot f.sites 0 no_site (omega (arith, two)) v.depot in
      let base = list_any_at is_base f.sites 1 no_site (omega (arith, two)) (ap not (v.bases 1 (omega arith) (omega (arith, two)))) in
      rw (depot, base) refl

  no_double_part : (k : ℕ) → k < length f.parts → double_part f.parts k ≡ None
  no_double_part k lt = rw (fresh_by (λ p. p.name) f.parts no_part k v.distinct_parts lt) refl

  -- the parent of a shop unit
  shop_of : (k l : ℕ) (o : Option (List ℕ)) → (part_at f.parts k).parent ≡ o → option_and_then (λ name. place_of name (part_names f.parts)) o ≡ Some l → is_shop_of (part_at f.parts l) (part_at f.parts k) ≡ true
  shop_of k l None e h = absurd cc
  shop_of k l (Some name) e h =
      let at = part_named f.parts name l h in
      rw e ((bytes_eq-Decides (part_at f.parts l).name name).1 at.1)

  few_before : (k l : ℕ) → k < length f.parts → l < length f.parts → is_shop_of (part_at f.parts l) (part_at f.parts k) ≡ true → count_by (is_shop_of (part_at f.parts l)) (take k f.parts) < 8
  few_before k l lt m h =
      let test = is_shop_of (part_at f.parts l) in
      let more = count_by_more_yes test f.parts k no_part lt h in
      let le : count_by test (take (k + 1) f.parts) ≤ count_by test f.parts = sum_by-take-le (λ x. cond (test x) 1 0) f.parts (k + 1) in
      omega (arith, more, le, length_shop_units f.parts l, v.few_shop_units l m)

  line_there : (k l : ℕ) → line_of f.parts k ≡ Some l → l < length f.parts
  line_there k l h = within (part_at f.parts k).parent h
    where
      within : (o : Option (List ℕ)) → option_and_then (λ name. place_of name (part_names f.parts)) o ≡ Some l → l < length f.parts
      within None e = absurd cc
      within (Some name) e = (part_named f.parts name l e).0

  no_shop_fault : (k : ℕ) (o : Option ℕ) → k < length f.parts → line_of f.parts k ≡ o → option_map_or (λ l. is_line (part_at f.parts l)) o false ≡ true → shop_fault f.parts k o ≡ None
  no_shop_fault k None lt e h = absurd (false≢true h)
  no_shop_fault k (Some l) lt e h =
      let few = few_before k l lt (line_there k l e) (shop_of k l (part_at f.parts k).parent refl e) in
      rw (h, lt-leb 8 (count_by (is_shop_of (part_at f.parts l)) (take k f.parts)) few) refl

  parent_at : (k : ℕ) (b : Bool) → k < length f.parts → is_line (part_at f.parts k) ≡ b → parent_fault f.parts k ≡ None
  parent_at k true lt e = rw e refl
  parent_at k false lt e = rw e (no_shop_fault k (line_of f.parts k) lt refl (v.parents k lt e))

  -- the sites and parts of a frame break no rule
  pub no_frame_fault : frame_fault f.sites f.parts ≡ None
  no_frame_fault =
      let a = no_first (site_fault f.sites) (length f.sites) no_site_fault in
      let b = no_first (double_part f.parts) (length f.parts) no_double_part in
      let c = no_first (parent_fault f.parts) (length f.parts) (λ k lt. parent_at k (is_line (part_at f.parts k)) lt refl) in
      rw (a, no_kinds_fault, b, c) refl

  depot_at : (i : ℕ) → i < length f.sites → (get_or f.sites i no_site).depot ≡ (i == 0)
  depot_at zero lt = v.depot
  depot_at (suc i) lt = v.bases (suc i) (omega arith) lt ∙ sym (ne_eqb (suc i) 0 (λ e. omega (arith, e)))

  -- the sites and parts of a frame give that frame
  pub own_frame : frame_of f.sites f.parts ≡ Ok f
  own_frame = rw (no_frame_fault) (ap (λ (ss : List SiteRow). Ok (record { sites = ss; parts = f.parts })) (stand_in_order f.sites depot_at))

-- ---- shop units by the places of their line units

apart : (names : List (List ℕ)) (i j : ℕ) → IsDistinct bytes_eq names → i < j → j < length names → bytes_eq (get_or names i []) (get_or names j []) ≡ false
unfolding IsDistinct
apart [] i j h lt within = absurd (omega (arith, within))
apart (x ∷ xs) i zero h lt within = absurd (omega (arith, lt))
apart (x ∷ xs) zero (suc j) h lt within = at_each (λ y. bytes_eq x y ≡ false) xs h.0 j [] (omega (arith, within))
apart (x ∷ xs) (suc i) (suc j) h lt within = apart xs i j h.1 (omega (arith, lt)) (omega (arith, within))

module _ (parts : List PartRow) (distinct : IsDistinct bytes_eq (part_names parts)) where
  name_is : (p : ℕ) → p < length parts → get_or (part_names parts) p [] ≡ (part_at parts p).name
  name_is p lt = get_or-map (λ (x : PartRow). x.name) parts p no_part [] lt

  named_apart : (i j : ℕ) → i < j → j < length parts → bytes_eq (part_at parts i).name (part_at parts j).name ≡ false
  named_apart i j lt within =
      let all : j < length (part_names parts) = omega (arith, within, length-map parts (λ (x : PartRow). x.name)) in
      ap (λ (n : List ℕ). bytes_eq n (part_at parts j).name) (sym (name_is i (omega (arith, lt, within))))
      ∙ ap (λ (n : List ℕ). bytes_eq (get_or (part_names parts) i []) n) (sym (name_is j within))
      ∙ apart (part_names parts) i j distinct lt all

  here_or_apart : (m l : ℕ) → m < length parts → l < length parts → bytes_eq (part_at parts l).name (part_at parts m).name ≡ (m == l)
  here_or_apart m l some within = elim (three m l) [
    | inl e ↦ ap (λ (i : ℕ). bytes_eq (part_at parts l).name (part_at parts i).name) e ∙ (bytes_eq-Decides (part_at parts l).name (part_at parts l).name).1 refl ∙ sym (eq-eqb m l e)
    | inr (inl lt) ↦ flip_false (part_at parts m).name (part_at parts l).name (named_apart m l lt within) ∙ sym (ne_eqb m l (λ e. omega (arith, e, lt)))
    | inr (inr lt) ↦ named_apart l m lt some ∙ sym (ne_eqb m l (λ e. omega (arith, e, lt)))
  ]
    where
      three : (m l : ℕ) → (m ≡ l) ⊎ ((m < l) ⊎ (l < m))
      three m l = grind arith

  shop_at : (l m : ℕ) (o : Option (List ℕ)) → l < length parts → option_and_then (λ name. place_of name (part_names parts)) o ≡ Some m → option_map_or (bytes_eq (part_at parts l).name) o false ≡ (m == l)
  shop_at l m None within h = absurd cc
  shop_at l m (Some name) within h =
      let at = part_named parts name m h in
      ap (bytes_eq (part_at parts l).name) (sym at.1) ∙ here_or_apart m l at.0 within

  -- a shop unit whose line unit has place m
  pub shop_of_line : (p l m : ℕ) → l < length parts → line_of parts p ≡ Some m → is_shop_of (part_at parts l) (part_at parts p) ≡ (m == l)
  shop_of_line p l m within h = shop_at l m (part_at parts p).parent within h

-- no line part is the parent of a part that has none
pub no_shop_at : (line : PartRow) (o : Option (List ℕ)) → is_none o ≡ true → option_map_or (bytes_eq line.name) o false ≡ false
no_shop_at line None h = refl
no_shop_at line (Some name) h = absurd (false≢true h)

-- a name that has no place is that of no part
unnamed : (parts : List PartRow) (l : ℕ) (o : Option (List ℕ)) → l < length parts → option_and_then (λ name. place_of name (part_names parts)) o ≡ None
    → option_map_or (bytes_eq (part_at parts l).name) o false ≡ false
unnamed parts l None within h = refl
unnamed parts l (Some name) within h =
    let all : l < length (part_names parts) = omega (arith, within, length-map parts (λ (x : PartRow). x.name)) in
    let past : length (part_names parts) ≤ position_or_len (bytes_eq name) (part_names parts) = grind (arith, common_steps) in
    let other = fails_before_first (bytes_eq name) (part_names parts) l [] (omega (arith, all, past)) in
    flip_false name (part_at parts l).name (ap (bytes_eq name) (sym (get_or-map (λ (x : PartRow). x.name) parts l no_part [] within)) ∙ other)

-- a part without a place for its line unit is no shop unit
pub no_shop_unplaced : (parts : List PartRow) (p l : ℕ) → l < length parts → line_of parts p ≡ None → is_shop_of (part_at parts l) (part_at parts p) ≡ false
no_shop_unplaced parts p l within h = unnamed parts l (part_at parts p).parent within h

-- ---- the rates stand in the places of their pairs

from_zero : (k : ℕ) → 0 + k ≡ k
from_zero k = omega arith

module _ {A : Type 0} (place : A → ℕ) where
  -- the row at place i of the list has this place, counted from the first one's
  abbrev pub Stand : ℕ → List A → Type 0
  Stand first rows = (i : ℕ) (d : A) → i < length rows → place (get_or rows i d) ≡ first + i

  tail_stands : (first : ℕ) (r : A) (rows : List A) → Stand first (r ∷ rows) → Stand (suc first) rows
  tail_stands first r rows h i d lt = h (suc i) d (omega (arith, lt)) ∙ (let e : first + suc i ≡ suc first + i = omega arith in e)

  head_stands : (first : ℕ) (r : A) (rows : List A) → Stand first (r ∷ rows) → place r ≡ first
  head_stands first r rows h = h 0 r (omega arith) ∙ (let e : first + 0 ≡ first = omega arith in e)

  found_at : (first : ℕ) (rows : List A) (d : A) → Stand first rows → (i : ℕ) → i < length rows → find (λ r. place r == first + i) rows ≡ Some (get_or rows i d)
  found_at first [] d h i lt = absurd (omega (arith, lt))
  found_at first (r ∷ rows) d h zero lt = let e : first + 0 ≡ first = omega arith in rw (eq-eqb (place r) (first + 0) (head_stands first r rows h ∙ sym e)) refl
  found_at first (r ∷ rows) d h (suc i) lt =
      let e : suc first + i ≡ first + suc i = omega arith in
      rw (ne_eqb (place r) (first + suc i) (λ q. omega (arith, q, head_stands first r rows h)))
      (subst (λ (v : ℕ). find (λ x. place x == v) rows ≡ Some (get_or rows i d)) e (found_at (suc first) rows d (tail_stands first r rows h) i (omega (arith, lt))))

  none_after : (first : ℕ) (rows : List A) (v : ℕ) → Stand first rows → first + length rows ≤ v → find (λ r. place r == v) rows ≡ None
  none_after first [] v h le = refl
  none_after first (r ∷ rows) v h le =
      rw (ne_eqb (place r) v (λ q. omega (arith, q, head_stands first r rows h, le)))
      (none_after (suc first) rows v (tail_stands first r rows h) (omega (arith, le)))

module _ {A : Type 0} (place : A → ℕ) (rows : List A) (stand : Stand place 0 rows) (d : A) where
  take_stands : (k : ℕ) → k ≤ length rows → Stand place 0 (take k rows)
  take_stands k le i e lt =
      let short : i < k = omega (arith, lt, length-take k rows) in
      ap place (get_or-take k rows i e short) ∙ stand i e (omega (arith, short, le))

  fresh : (k : ℕ) → k < length rows → has_row place (take k rows) (place (get_or rows k d)) ≡ false
  unfolding row_at
  fresh k lt =
      let at : place (get_or rows k d) ≡ k = stand k d lt ∙ from_zero k in
      ap is_some (none_after place 0 (take k rows) (place (get_or rows k d)) (take_stands k (omega (arith, lt))) (omega (arith, at, length-take k rows)))

  there : (i : ℕ) → i < length rows → row_at place rows i ≡ Some (get_or rows i d)
  unfolding row_at
  there i lt = subst (λ (k : ℕ). find (λ r. place r == k) rows ≡ Some (get_or rows i d)) (from_zero i) (found_at place 0 rows d stand i lt)

  in_order : (n : ℕ) → length rows ≡ n → rows_in_order place d n rows ≡ rows
  in_order n e = sym (fill_by_all (λ i. unwrap_or (row_at place rows i) d) rows n d e (λ k lt. sym (rw (there k (omega (arith, lt, e))) refl)))

pub no_rates_fault : (m n : ℕ) (rs : List RateRow) → length rs ≡ n → Stand (rate_place m) 0 rs → rates_fault m n rs ≡ None
no_rates_fault m n rs e stand =
    let a = no_first (double_rate m rs) (length rs) (λ k lt. rw (fresh (rate_place m) rs stand no_rate k lt) refl) in
    let b = no_first (missing_rate m rs) n (λ i lt. rw (there (rate_place m) rs stand no_rate i (omega (arith, lt, e))) refl) in
    rw (a, b) refl

abbrev with_rates : CaseRows → List RateRow → CaseRows
with_rates c rs = record { sites = c.sites; parts = c.parts; rates = rs }

-- rates that stand in the places of their pairs make the case
pub case_of_standing : (c : CaseRows) → length c.rates ≡ length c.parts * length c.sites → Stand (rate_place (length c.sites)) 0 c.rates → case_of (frame_rows c) c.rates ≡ Ok c
case_of_standing c count stand =
    let none = no_rates_fault (length c.sites) (length c.parts * length c.sites) c.rates count stand in
    let same = in_order (rate_place (length c.sites)) c.rates stand no_rate (length c.parts * length c.sites) count in
    rw none (ap (λ (rs : List RateRow). Ok (with_rates c rs)) same)

-- so the rates of a case stand
pub rates_stand : (c : CaseRows) → IsCase c → Stand (rate_place (length c.sites)) 0 c.rates
rates_stand c v i d lt =
    let m = length c.sites in
    let some : 0 < m = omega (arith, v.frame.fewest_sites) in
    let p = div_below i m (length c.parts) some (omega (arith, lt, v.rate_count)) in
    let k = mod_below i m some in
    let same = div-add-mod' i m in
    let pair = subst (λ (j : ℕ). ((get_or c.rates j no_rate).part.0 ≡ i / m) × ((get_or c.rates j no_rate).site.0 ≡ i % m)) same (v.pairs (i / m) (i % m) p k) in
    ap (rate_place m) (get_or_any c.rates i d no_rate lt)
    ∙ ap (λ (q : ℕ). q * m + (get_or c.rates i no_rate).site.0) pair.0 ∙ ap (λ (k : ℕ). i / m * m + k) pair.1 ∙ same ∙ sym (from_zero i)
  where
    get_or_any : (xs : List RateRow) (i : ℕ) (d e : RateRow) → i < length xs → get_or xs i d ≡ get_or xs i e
    get_or_any [] i d e h = absurd (omega (arith, h))
    get_or_any (x ∷ xs) zero d e h = refl
    get_or_any (x ∷ xs) (suc i) d e h = get_or_any xs i d e (omega (arith, h))

-- a valid case is what its own frame and rates give
pub own_case : (c : CaseRows) → IsCase c → case_of (frame_rows c) c.rates ≡ Ok c
own_case c v = case_of_standing c v.rate_count (rates_stand c v)
