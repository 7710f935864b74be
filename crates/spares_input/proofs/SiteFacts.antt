-- Sites by their names, and that rows of sites that break no rule have distinct names and the depot in one place.
use Rattle.std.proofs.Common.{◌≡◌, ℕ, zero, suc, ◌+◌, ◌<◌, ◌≤◌, ◌∷◌, [], ◌++◌, List, take, drop, length, filter, count_by, Bool, true, false, not, ◌&&◌, Option, Some, None, if◌then◌else◌, nat_lt, position, bytes_eq, refl, sym, ap, ◌∙◌, inl, inr, arith, add-one}
use Rattle.std.proofs.lemmas.List.{take_more, map-append, length-map, drop_more, take-append-drop, take_all}
use Rattle.std.proofs.lemmas.List.Folds.{list_any_at, list_any_none}
use Rattle.std.proofs.lemmas.List.Elements.{filter-append}
use Rattle.std.proofs.lemmas.List.Sums.{count_by_more_yes, count_by_more_no, sum_by-cons, sum_by-remove, fails_before_first}
use Rattle.std.proofs.lemmas.List.Quantifiers.{position-Some}
use Rattle.std.proofs.lemmas.Bool.{cases_Bool, or_parts, false≢true, ltb-false, not-true, both_ways}
use Rattle.std.proofs.Math.Bool.{or-false}
use Rattle.std.proofs.lemmas.Map.Keys.{IsDistinct-push}
use Rattle.std.specs.Cmp.Lexicographic.{nat_list_eq_equiv}
use Rattle.std.specs.List.{IsDistinct, list_any, position_or_len, remove}
use Rattle.spares_input.specs.First.{first}
use Rattle.spares_input.specs.Rows.{no_site}
use Rattle.spares_input.specs.Frames.{is_among, is_base, is_depot, kinds_fault, place_of, site_at, site_fault, site_names}
use Rattle.spares_input.specs.declared.rows.SiteRow.{SiteRow}
use Rattle.spares_input.specs.declared.fault.CaseFault.TheVariants as fault
use Rattle.spares_input.proofs.Firsts.{first_none}

-- where one is the contrary of another, its own contrary is that other
pub not_not : (a b : Bool) → a ≡ not b → not a ≡ b
not_not a true h = rw h refl
not_not a false h = rw h refl

-- a name is among the names of sites where one of the sites has it
pub is_named : (name : List ℕ) (sites : List SiteRow) → is_among name (site_names sites) ≡ list_any (λ s. bytes_eq name s.name) sites
is_named name [] = refl
is_named name (s ∷ sites) = rw (is_named name sites) refl

-- the rule by whether the name of the row is known and whether a depot was there
pub site_rule : (sites : List SiteRow) (k : ℕ) (r : SiteRow) (named : Bool) → r ≡ site_at sites k
    → named ≡ list_any (λ s. bytes_eq r.name s.name) (take k sites)
    → site_fault sites k ≡ (if named then Some (fault.DoubleSite (k + 2))
    else if r.depot && list_any is_depot (take k sites) then Some (fault.TwoDepots (k + 2)) else None)
site_rule sites k r named row known = rw (← row, is_named r.name (take k sites), ← known) refl

as_far : (name : List ℕ) (sites : List SiteRow)
    → position_or_len (bytes_eq name) (site_names sites) ≡ position_or_len (λ s. bytes_eq name s.name) sites
as_far name [] = refl
as_far name (s ∷ sites) = rw (as_far name sites) refl

-- the place of a name is that of the first site that has it
pub site_place : (name : List ℕ) (sites : List SiteRow) → place_of name (site_names sites) ≡ position (λ s. bytes_eq name s.name) sites
site_place name sites = rw (as_far name sites, length-map sites (λ (s : SiteRow). s.name)) refl

-- neither test holds where no rule is broken
rules_none : {A : Type 0} (a b : Bool) (x y : A) → (if a then Some x else if b then Some y else None) ≡ None → (a ≡ false) × (b ≡ false)
rules_none true b x y h = cc
rules_none false true x y h = cc
rules_none false false x y h = (refl, refl)

distinct_below : (sites : List SiteRow) (n : ℕ) → n ≤ length sites → first (site_fault sites) (length sites) ≡ None
    → IsDistinct bytes_eq (site_names (take n sites))
unfolding IsDistinct
distinct_below sites zero h none = tt
distinct_below sites (suc n) h none =
    let within : n < length sites = omega arith in
    let at = site_at sites n in
    let new = (rules_none (is_among at.name (site_names (take n sites))) (at.depot && list_any is_depot (take n sites)) _ _ (first_none (site_fault sites) (length sites) n none within)).0 in
    let more : site_names (take (n + 1) sites) ≡ site_names (take n sites) ++ at.name ∷ [] =
    rw (take_more sites n no_site within) (map-append (λ x. x.name) (take n sites) (at ∷ [])) in
    let whole : IsDistinct bytes_eq (site_names (take (n + 1) sites)) =
    rw more (IsDistinct-push nat_list_eq_equiv (site_names (take n sites)) at.name (distinct_below sites n (omega arith) none) new) in
    rw add-one at whole

-- the names of sites that break no rule are distinct
pub distinct_names : (sites : List SiteRow) → first (site_fault sites) (length sites) ≡ None → IsDistinct bytes_eq (site_names sites)
distinct_names sites none = rw (take_all (length sites) sites (omega arith)) at (distinct_below sites (length sites) (omega arith) none)

-- a depot stands behind no other
depot_alone : (sites : List SiteRow) (k : ℕ) → site_fault sites k ≡ None → (site_at sites k).depot ≡ true → list_any is_depot (take k sites) ≡ false
depot_alone sites k h depot =
    let both = (rules_none (is_among (site_at sites k).name (site_names (take k sites))) ((site_at sites k).depot && list_any is_depot (take k sites)) _ _ h).1 in
    rw depot at both

none_counted : (sites : List SiteRow) → list_any is_depot sites ≡ false → count_by is_depot sites ≡ 0
none_counted [] h = refl
none_counted (r ∷ sites) h =
    let parts = or_parts r.depot (list_any is_depot sites) h in
    sum_by-cons (λ x. if x.depot then 1 else 0) r sites ∙ rw (parts.0, none_counted sites parts.1) refl

some_more : (b : Bool) (n : ℕ) → (if b then 1 else 0) + n ≡ 0 → (b ≡ false) × (n ≡ 0)
some_more true n h = absurd (omega arith)
some_more false n h = (refl, omega arith)

none_there : (sites : List SiteRow) → count_by is_depot sites ≡ 0 → list_any is_depot sites ≡ false
none_there [] h = refl
none_there (r ∷ sites) h =
    let parts = some_more r.depot (count_by is_depot sites) (sym (sum_by-cons (λ x. if x.depot then 1 else 0) r sites) ∙ h) in
    rw (parts.0, none_there sites parts.1) refl

one_depot : (sites : List SiteRow) (n : ℕ) → n ≤ length sites → first (site_fault sites) (length sites) ≡ None → count_by is_depot (take n sites) ≤ 1
one_depot sites zero h none = omega arith
one_depot sites (suc n) h none =
    let within : n < length sites = omega arith in
    let before = one_depot sites n (omega arith) none in
    let bound : count_by is_depot (take (n + 1) sites) ≤ 1 = elim (cases_Bool (site_at sites n).depot) [
      | inl depot ↦
          let zero = none_counted (take n sites) (depot_alone sites n (first_none (site_fault sites) (length sites) n none within) depot) in
          omega (arith, count_by_more_yes is_depot sites n no_site within depot, zero)
      | inr base ↦ omega (arith, before, count_by_more_no is_depot sites n no_site within base)
    ] in
    rw add-one at bound

-- there is one depot at most
pub few_depots : (sites : List SiteRow) → first (site_fault sites) (length sites) ≡ None → count_by is_depot sites ≤ 1
few_depots sites none = rw (take_all (length sites) sites (omega arith)) at (one_depot sites (length sites) (omega arith) none)

filter_bases : (sites : List SiteRow) → list_any is_depot sites ≡ false → (filter is_depot sites ≡ []) × (filter is_base sites ≡ sites)
filter_bases [] h = (refl, refl)
filter_bases (r ∷ sites) h =
    let parts = or_parts r.depot (list_any is_depot sites) h in
    let rest = filter_bases sites parts.1 in
    (rw (parts.0, rest.0) refl, rw (parts.0, rest.1) refl)

append_none : (xs ys : List SiteRow) → xs ++ ys ≡ [] → (xs ≡ []) × (ys ≡ [])
append_none [] ys h = (refl, h)
append_none (x ∷ xs) ys h = cc

-- the depot of sites that have one alone, and the bases
pub depot_apart : (sites : List SiteRow) (d : ℕ) (r : SiteRow) → d < length sites → r ≡ site_at sites d → r.depot ≡ true → count_by is_depot sites ≤ 1
    → (filter is_depot sites ≡ r ∷ []) × (filter is_base sites ≡ remove sites d)
depot_apart sites d r within row depot few =
    let counted = sum_by-remove (λ x. if x.depot then 1 else 0) sites d no_site within in
    let one : ℕ = 1 in
    let here : (if (site_at sites d).depot then one else 0) ≡ one = rw (← row, depot) refl in
    let others : list_any is_depot (remove sites d) ≡ false = none_there (remove sites d) (omega (arith, counted, here, few)) in
    let bases = filter_bases (remove sites d) others in
    let split : sites ≡ take d sites ++ r ∷ drop (d + 1) sites =
    sym (take-append-drop d sites) ∙ rw (drop_more sites d no_site within, ← row) refl in
    let rest : remove sites d ≡ take d sites ++ drop (d + 1) sites = rw add-one refl in
    let none = append_none (filter is_depot (take d sites)) (filter is_depot (drop (d + 1) sites)) (sym (filter-append is_depot (take d sites) (drop (d + 1) sites)) ∙ (rw (← rest) bases.0)) in (
      ap (filter is_depot) split ∙ (filter-append is_depot (take d sites) (r ∷ drop (d + 1) sites) ∙ rw (none.0, none.1, depot) refl),
      ap (filter is_base) split ∙ (filter-append is_base (take d sites) (r ∷ drop (d + 1) sites) ∙ (rw depot (sym (filter-append is_base (take d sites) (drop (d + 1) sites)) ∙ rw (← rest) bases.1))),
    )

unfound : (b : Bool) (x : ℕ) → ◌≡◌ {A = Option ℕ} (if b then Some x else None) None → b ≡ false
unfound true x h = cc
unfound false x h = refl

no_position : (p : SiteRow → Bool) (sites : List SiteRow) → position p sites ≡ None → list_any p sites ≡ false
no_position p sites h =
    let past : length sites ≤ position_or_len p sites = ltb-false (position_or_len p sites) (length sites) (unfound (nat_lt (position_or_len p sites) (length sites)) (position_or_len p sites) h) in
    list_any_none p sites (λ k d within. fails_before_first p sites k d (omega (arith, within, past)))

-- sites without a depot break the rule of a depot
pub kinds_no_depot : (sites : List SiteRow) → position is_depot sites ≡ None → kinds_fault sites ≡ Some fault.NoDepot
kinds_no_depot sites h = rw (no_position is_depot sites h) refl

a_depot : (sites : List SiteRow) (d : ℕ) → position is_depot sites ≡ Some d → list_any is_depot sites ≡ true
a_depot sites d h =
    let found = position-Some is_depot sites d no_site h in
    list_any_at is_depot sites d no_site found.0 found.1

-- sites with a depot but without a base break the rule of a base
pub kinds_no_base : (sites : List SiteRow) (d : ℕ) → position is_depot sites ≡ Some d → list_any is_base sites ≡ false → kinds_fault sites ≡ Some fault.NoBase
kinds_no_base sites d h none = rw (a_depot sites d h, none) refl

-- sites with a depot and a base break neither rule
pub kinds_both : (sites : List SiteRow) (d : ℕ) → position is_depot sites ≡ Some d → list_any is_base sites ≡ true → kinds_fault sites ≡ None
kinds_both sites d h some = rw (a_depot sites d h, some) refl

two_long : (sites : List SiteRow) → list_any is_depot sites ≡ true → list_any is_base sites ≡ true → 2 ≤ length sites
two_long [] h k = absurd (false≢true h)
two_long (r ∷ []) h k = absurd (both_ways r.depot (not-true r.depot (sym (or-false (not r.depot)) ∙ k)) (sym (or-false r.depot) ∙ h))
two_long (r ∷ s ∷ sites) h k = omega arith

base_there : (sites : List SiteRow) → kinds_fault sites ≡ None → (list_any is_depot sites ≡ true) × (list_any is_base sites ≡ true)
base_there sites h = kinds_there (list_any is_depot sites) (list_any is_base sites) _ _ h
  where
    kinds_there : {A : Type 0} (a b : Bool) (x y : A) → (if not a then Some x else if not b then Some y else None) ≡ None → (a ≡ true) × (b ≡ true)
    kinds_there false b x y h = cc
    kinds_there true false x y h = cc
    kinds_there true true x y h = (refl, refl)

-- a depot and a base are two sites
pub enough_sites : (sites : List SiteRow) → kinds_fault sites ≡ None → 2 ≤ length sites
enough_sites sites h = let both = base_there sites h in two_long sites both.0 both.1
