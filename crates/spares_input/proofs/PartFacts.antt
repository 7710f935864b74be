-- Which rule a row of parts breaks.
use Rattle.std.proofs.Common.{◌≡◌, ℕ, zero, suc, ◌+◌, ◌<◌, ◌≤◌, ◌∷◌, [], ◌++◌, List, take, length, get_or, map, filter, count_by, Bool, true, false, not, Option, Some, None, if◌then◌else◌, bytes_eq, nat_le, refl, sym, ap, ◌∙◌, inl, inr, arith, add-one}
use Rattle.std.specs.List.{range_with_len}
use Rattle.std.specs.Option.{option_and_then, option_map}
use Rattle.std.proofs.lemmas.List.{take_more, map-append, get_or-map, length-map, take_all}
use Rattle.std.proofs.Math.ListN.{get_or-append}
use Rattle.std.proofs.Math.Seq.{get_or-append_seam}
use Rattle.std.proofs.lemmas.List.FromFn.{fill_by_all}
use Rattle.std.proofs.lemmas.List.Folds.{fold-map}
use Rattle.std.proofs.lemmas.List.Sums.{length-filter, count_by_more_yes, count_by_more_no}
use Rattle.std.proofs.lemmas.List.Quantifiers.{position-Some}
use Rattle.std.proofs.lemmas.Bool.{cases_Bool, cases_eq, leb-false, false≢true}
use Rattle.std.proofs.lemmas.Slice.Eq.{bytes_eq-Decides}
use Rattle.spares_input.specs.First.{first}
use Rattle.spares_input.specs.Rows.{is_line, no_part, no_site}
use Rattle.spares_input.specs.Frames.{double_part, has_line, is_among, is_shop_of, line_of, parent_fault, part_at, part_names, place_of, shop_fault, shop_units_among, site_at, site_names}
use Rattle.spares_input.specs.declared.rows.PartRow.{PartRow}
use Rattle.spares_input.specs.declared.rows.PartId.{PartId}
use Rattle.spares_input.specs.declared.rows.SiteRow.{SiteRow}
use Rattle.spares_input.specs.declared.fault.CaseFault.TheVariants as fault
use Rattle.spares_input.proofs.Firsts.{first_none}
use Rattle.spares_input.proofs.SiteFacts.{not_not}

-- a part whose name stands before it breaks the rule of names
pub double_part_known : (parts : List PartRow) (k : ℕ) (r : PartRow) (keys : List (List ℕ)) (fresh : Bool)
    → r ≡ part_at parts k → keys ≡ part_names (take k parts) → fresh ≡ not (is_among r.name keys)
    → fresh ≡ false → double_part parts k ≡ Some (fault.DoublePart (k + 2))
double_part_known parts k r keys fresh row names new h =
    let known : is_among r.name (part_names (take k parts)) ≡ true = rw (← names) (sym (not_not fresh (is_among r.name keys) new) ∙ rw h refl) in
    rw (← row, known) refl

-- a part whose name is new doesn't
pub double_part_new : (parts : List PartRow) (k : ℕ) (r : PartRow) (keys : List (List ℕ)) (fresh : Bool)
    → r ≡ part_at parts k → keys ≡ part_names (take k parts) → fresh ≡ not (is_among r.name keys)
    → fresh ≡ true → double_part parts k ≡ None
double_part_new parts k r keys fresh row names new h =
    let known : is_among r.name (part_names (take k parts)) ≡ false = rw (← names) (sym (not_not fresh (is_among r.name keys) new) ∙ rw h refl) in
    rw (← row, known) refl

-- the names up to a part are those before it and its own
pub part_names_more : (parts : List PartRow) (k : ℕ) (r : PartRow) → k < length parts → r ≡ part_at parts k
    → part_names (take k parts) ++ r.name ∷ [] ≡ part_names (take (k + 1) parts)
part_names_more parts k r within row =
    sym (rw (take_more parts k no_part within, ← row) (map-append (λ x. x.name) (take k parts) (r ∷ [])))

-- the row of a name at its place
named_at : (names : List (List ℕ)) (name : List ℕ) (l : ℕ) → place_of name names ≡ Some l → (l < length names) × (name ≡ get_or names l [])
named_at names name l h =
    let found = position-Some (bytes_eq name) names l [] h in
    (found.0, (bytes_eq-Decides name (get_or names l [])).0 found.1)

-- the place found for a name is that of a part with this name
pub part_named : (parts : List PartRow) (name : List ℕ) (l : ℕ) → place_of name (part_names parts) ≡ Some l
    → (l < length parts) × ((part_at parts l).name ≡ name)
part_named parts name l h =
    let at = named_at (part_names parts) name l h in
    let within : l < length parts = omega (arith, at.0, length-map parts (λ (x : PartRow). x.name)) in
    (within, sym (at.1 ∙ get_or-map (λ (x : PartRow). x.name) parts l no_part [] within))

-- the place found for a name is that of a site with this name
pub site_named : (sites : List SiteRow) (name : List ℕ) (s : ℕ) → place_of name (site_names sites) ≡ Some s
    → (s < length sites) × ((site_at sites s).name ≡ name)
site_named sites name s h =
    let at = named_at (site_names sites) name s h in
    let within : s < length sites = omega (arith, at.0, length-map sites (λ (x : SiteRow). x.name)) in
    (within, sym (at.1 ∙ get_or-map (λ (x : SiteRow). x.name) sites s no_site [] within))

shop_rules : {A : Type 0} (a b : Bool) (x y : A) → (if not a then Some x else if b then Some y else None) ≡ None → (a ≡ true) × (b ≡ false)
shop_rules false b x y h = cc
shop_rules true true x y h = cc
shop_rules true false x y h = (refl, refl)

line_there : (parts : List PartRow) (k : ℕ) (o : Option ℕ) → shop_fault parts k o ≡ None
    → (l : ℕ) × (o ≡ Some l) × (is_line (part_at parts l) ≡ true) × (nat_le 8 (count_by (is_shop_of (part_at parts l)) (take k parts)) ≡ false)
line_there parts k None h = cc
line_there parts k (Some l) h =
    let both = shop_rules (is_line (part_at parts l)) (nat_le 8 (count_by (is_shop_of (part_at parts l)) (take k parts))) _ _ h in
    (l, refl, both.0, both.1)

parent_rule : {A : Type 0} (b : Bool) (o : Option A) → (if b then None else o) ≡ None → b ≡ false → o ≡ None
parent_rule true o h e = absurd (false≢true (sym e))
parent_rule false o h e = h

-- the line unit of a shop unit that breaks no rule
shop_line : (parts : List PartRow) (p : ℕ) → parent_fault parts p ≡ None → is_line (part_at parts p) ≡ false
    → (l : ℕ) × (line_of parts p ≡ Some l) × (is_line (part_at parts l) ≡ true) × (nat_le 8 (count_by (is_shop_of (part_at parts l)) (take p parts)) ≡ false)
shop_line parts p none shop = line_there parts p (line_of parts p) (parent_rule (is_line (part_at parts p)) (shop_fault parts p (line_of parts p)) none shop)

-- where no parent breaks a rule, each shop unit has a line unit
pub parent_has_line : (parts : List PartRow) (p : ℕ) → first (parent_fault parts) (length parts) ≡ None → p < length parts
    → is_line (part_at parts p) ≡ false → has_line parts p ≡ true
parent_has_line parts p none within shop =
    let line = shop_line parts p (first_none (parent_fault parts) (length parts) p none within) shop in
    rw (line.1, line.2) refl

shop_parent : (line r : PartRow) (o : Option (List ℕ)) → r.parent ≡ o → is_shop_of line r ≡ true → (name : List ℕ) × (r.parent ≡ Some name) × (line.name ≡ name)
shop_parent line r None e h = absurd (false≢true (rw e at h))
shop_parent line r (Some name) e h = (name, e, (bytes_eq-Decides line.name name).0 (rw e at h))

one_more : (line : PartRow) (parts : List PartRow) (n : ℕ) → n ≤ length parts → first (parent_fault parts) (length parts) ≡ None
    → count_by (is_shop_of line) (take n parts) ≤ 8
one_more line parts zero h none = omega arith
one_more line parts (suc n) h none =
    let within : n < length parts = omega arith in
    let before = one_more line parts n (omega arith) none in
    let bound : count_by (is_shop_of line) (take (n + 1) parts) ≤ 8 = elim (cases_Bool (is_shop_of line (part_at parts n))) [
      | inl shop ↦
          let parent = shop_parent line (part_at parts n) (part_at parts n).parent refl shop in
          let is_shop : is_line (part_at parts n) ≡ false = rw parent.1 refl in
          let own = shop_line parts n (first_none (parent_fault parts) (length parts) n none within) is_shop in
          let place : place_of parent.0 (part_names parts) ≡ Some own.0 = sym (ap (λ o. option_and_then (λ name. place_of name (part_names parts)) o) parent.1) ∙ own.1 in
          let same : (part_at parts own.0).name ≡ line.name = (part_named parts parent.0 own.0 place).1 ∙ sym parent.2 in
          let free : count_by (is_shop_of line) (take n parts) < 8 = leb-false 8 (count_by (is_shop_of line) (take n parts)) (rw same at own.3) in
          omega (arith, count_by_more_yes (is_shop_of line) parts n no_part within shop, free)
      | inr other ↦ omega (arith, before, count_by_more_no (is_shop_of line) parts n no_part within other)
    ] in
    rw add-one at bound

-- a line unit has at most 8 shop units
pub shop_units_few : (line : PartRow) (parts : List PartRow) → first (parent_fault parts) (length parts) ≡ None → count_by (is_shop_of line) parts ≤ 8
shop_units_few line parts none = rw (take_all (length parts) parts (omega arith)) at (one_more line parts (length parts) (omega arith) none)

-- the places of the elements that pass are as many as these
passing_places : (t : PartRow → Bool) (parts : List PartRow) → length (filter (λ p. t (part_at parts p)) (range_with_len 0 (length parts))) ≡ count_by t parts
passing_places t parts =
    let all : parts ≡ map (part_at parts) (range_with_len 0 (length parts)) = fill_by_all (part_at parts) parts (length parts) no_part refl (λ k h. refl) in
    length-filter (λ p. t (part_at parts p)) (range_with_len 0 (length parts))
    ∙ (sym (fold-map (λ (s : ℕ) (x : PartRow). s + (if t x then 1 else 0)) (part_at parts) 0 (range_with_len 0 (length parts))) ∙ ap (count_by t) (sym all))

-- a line unit has as many shop units as there are parts that name it as their parent
pub length_shop_units : (parts : List PartRow) (l : ℕ) → length (shop_units_among parts l) ≡ count_by (is_shop_of (part_at parts l)) parts
length_shop_units parts l = passing_places (is_shop_of (part_at parts l)) parts

-- one parent more
pub parents_more : (parts : List PartRow) (parents : List (Option PartId)) (line : Option PartId) (i : ℕ) → length parents ≡ i
    → option_map (λ l. l.0) line ≡ line_of parts i → ((p : ℕ) → p < i → option_map (λ l. l.0) (get_or parents p None) ≡ line_of parts p)
    → (p : ℕ) → p < i + 1 → option_map (λ l. l.0) (get_or (parents ++ line ∷ []) p None) ≡ line_of parts p
parents_more parts parents line i count here before p b =
    elim (cases_eq p i) [
      | inl e ↦ rw (e, ← count) (ap (option_map (λ l. l.0)) (get_or-append_seam parents line [] None) ∙ rw count here)
      | inr o ↦ ap (option_map (λ l. l.0)) (get_or-append parents (line ∷ []) None p (omega (arith, b, o, count))) ∙ before p (omega (arith, b, o))
    ]
