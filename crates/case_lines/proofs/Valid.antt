-- Every case has lines.
use Rattle.std.proofs.Common.{◌≡◌, ℕ, zero, suc, ◌+◌, ◌*◌, ◌/◌, ◌%◌, ◌<◌, ◌≤◌, Bool, true, false, cond, ◌&&◌, List, [], ◌∷◌, ◌++◌, length, get_or, Option, Some, None, refl, sym, ap, subst, ◌∙◌, append_assoc, arith}
use Rattle.std.specs.Prelude.{not, ◌||◌, ◌==◌, nat_le, is_none}
use Rattle.std.specs.List.{AllByRecursion}
use Rattle.std.proofs.lemmas.Bool.{and_from, eq-eqb, le-leb, leb-false, eqb-true, ne_eqb, and_parts, leb-true}
use Rattle.std.proofs.lemmas.Nat.{div-add-mod', div_below, mod_below}
use Rattle.std.proofs.lemmas.List.Folds.{list_any-append}
use Rattle.std.proofs.lemmas.List.Elements.{recursion_from_All}
use Rattle.line_text.specs.Formats.{Format, one, fits_after}
use Rattle.line_text.specs.Files.{line}
use Rattle.line_text.specs.Texts.{in_range, number, numbers_from}
use Rattle.line_text.proofs.Public.{length_numbers_from}
use Rattle.spares_input.specs.Names.{is_name}
use Rattle.spares_input.specs.Rows.{IsNumberField, IsSiteRow, IsPartRow, IsRateRow, is_line, no_site, no_rate}
use Rattle.spares_input.specs.Frames.{site_at, part_at}
use Rattle.spares_input.specs.Cases.{CaseRows, rate_at, IsCase}
use Rattle.spares_input.specs.declared.rows.SiteRow.{SiteRow}
use Rattle.spares_input.specs.declared.rows.PartRow.{PartRow}
use Rattle.spares_input.specs.declared.rows.RateRow.{RateRow}
use Rattle.case_lines.specs.Grammar.{number_if, fixed_if, depot_fields, base_fields, site_line, sites, parent_field, limit_field, usual, weight_field, part_fields, weighs_more, are_weighted, is_owed, may_stand, part_line, part_lines, parts_line, header, weights_in, count_in, parts, Pair, pair_at, rate_line, rates, case_format}

-- ---- fields

-- a number from the least to the most passes the test of its range
pub in_range_holds : (least most n : ℕ) → least ≤ n → n ≤ most → in_range least most n ≡ true
in_range_holds least most n h g = and_from _ _ (le-leb least n h) (le-leb n most g)

-- a number that passes the test of its range is at least the least and at most the most
pub range_parts : (least most n : ℕ) → in_range least most n ≡ true → (least ≤ n) × (n ≤ most)
range_parts least most n h = let p = and_parts (nat_le least n) (nat_le n most) h in (leb-true least n p.0, leb-true n most p.1)

-- each field of a part's line is in the format of its column
pub record PartFits (weighted : Bool) (p : PartRow) : Type 0 where
  pub name : is_name p.name ≡ true
  pub parent : parent_field.fits p.parent ≡ true
  pub cost : (one (number 1 100000000)).fits p.cost ≡ true
  pub per_system : (number_if (is_none p.parent) 1 100).fits p.per_system ≡ true
  pub max_depot : limit_field.fits p.max_depot ≡ true
  pub max_base : limit_field.fits p.max_base ≡ true
  pub weight : (weight_field weighted (is_none p.parent)).fits p.weight ≡ true

-- where a part fits the format of its line, each of its fields fits its own
pub part_fields_fit : (weighted : Bool) (p : PartRow) → (part_fields weighted).fits p ≡ true → PartFits weighted p
part_fields_fit weighted p h =
    let weight = (weight_field weighted (is_none p.parent)).fits p.weight in
    let max_base = limit_field.fits p.max_base && weight in
    let max_depot = limit_field.fits p.max_depot && max_base in
    let per_system = (number_if (is_none p.parent) 1 100).fits p.per_system && max_depot in
    let cost = (one (number 1 100000000)).fits p.cost && per_system in
    let parent = parent_field.fits p.parent && cost in
    let a = and_parts true (is_name p.name && parent) h in
    let b = and_parts (is_name p.name) parent a.1 in
    let c = and_parts (parent_field.fits p.parent) cost b.1 in
    let d = and_parts ((one (number 1 100000000)).fits p.cost) per_system c.1 in
    let e = and_parts ((number_if (is_none p.parent) 1 100).fits p.per_system) max_depot d.1 in
    let f = and_parts (limit_field.fits p.max_depot) max_base e.1 in
    let g = and_parts (limit_field.fits p.max_base) weight f.1 in
    record { name = b.0; parent = c.0; cost = d.0; per_system = e.0; max_depot = f.0; max_base = g.0; weight = g.1 }

number_fits : (has : Bool) (least most n : ℕ) → IsNumberField has least most n → (number_if has least most).fits n ≡ true
number_fits true least most n h = let p = h.within refl in in_range_holds least most n p.0 p.1
number_fits false least most n h = and_from _ _ (eq-eqb n 0 (h.empty refl)) refl

fixed_fits : (has : Bool) (places most n : ℕ) → IsNumberField has 0 most n → (fixed_if has places most).fits n ≡ true
fixed_fits true places most n h = let p = h.within refl in in_range_holds 0 most n p.0 p.1
fixed_fits false places most n h = and_from _ _ (eq-eqb n 0 (h.empty refl)) refl

-- each value is in the format of its place
each_fits : {A : Type 0} (format : ℕ → Format A) (d : A) (xs : List A) (first : ℕ) (before : List A) → ((i : ℕ) → i < length xs → (format (first + i)).fits (get_or xs i d) ≡ true) → fits_after (λ _ i. format i) before (numbers_from first (length xs)) xs ≡ true
each_fits format d [] first before h = refl
each_fits format d (x ∷ xs) first before h =
    let here : first + 0 ≡ first = omega arith in
    and_from _ _ (subst (λ (k : ℕ). (format k).fits x ≡ true) here (h 0 (omega arith)))
    (each_fits format d xs (suc first) (before ++ x ∷ []) (λ i lt. let e : first + suc i ≡ suc first + i = omega arith in subst (λ (k : ℕ). (format k).fits (get_or xs i d) ≡ true) e (h (suc i) (omega (arith, lt)))))

all_fit : {A : Type 0} (format : ℕ → Format A) (d : A) (xs : List A) → ((i : ℕ) → i < length xs → (format i).fits (get_or xs i d) ≡ true) → fits_after (λ _ i. format i) [] (numbers_from 0 (length xs)) xs ≡ true
all_fit format d xs h = each_fits format d xs 0 [] (λ i lt. let e : i ≡ 0 + i = omega arith in subst (λ (k : ℕ). (format k).fits (get_or xs i d) ≡ true) e (h i lt))

-- ---- sites

site_fits : (c : Bool) (r : SiteRow) → IsSiteRow r → r.depot ≡ c → (cond c (one (line depot_fields)) (one (line base_fields))).fits r ≡ true
site_fits true r h e =
    let none : not r.depot ≡ false = ap not e in
    and_from _ _ (and_from _ _ (and_from _ _ e (eq-eqb r.systems 0 (h.systems.empty none))) (eq-eqb r.ship 0 (h.ship.empty none))) (and_from _ _ h.name refl)
site_fits false r h e =
    let some : not r.depot ≡ true = ap not e in
    let systems = h.systems.within some in
    let ship = h.ship.within some in
    and_from _ _ some (and_from _ _ h.name (and_from _ _ refl (and_from _ _ (in_range_holds 1 10000 r.systems systems.0 systems.1) (in_range_holds 0 999999 r.ship ship.0 ship.1))))

-- ---- parts

parent_fits : (o : Option (List ℕ)) → ((name : List ℕ) → o ≡ Some name → is_name name ≡ true) → parent_field.fits o ≡ true
parent_fits None h = refl
parent_fits (Some name) h = h name refl

light : (n : ℕ) → nat_le 2 n ≡ false → n < 2
light n e = leb-false 2 n e

usual_is : (used : Bool) (n : ℕ) → IsNumberField used 1 100 n → nat_le 2 n ≡ false → (n == usual used) ≡ true
usual_is true n h e = eq-eqb n 1 (omega (arith, (h.within refl).0, light n e))
usual_is false n h e = eq-eqb n 0 (h.empty refl)

weight_fits : (weighted used : Bool) (n : ℕ) → IsNumberField used 1 100 n → (weighted ≡ false → nat_le 2 n ≡ false) → (weight_field weighted used).fits n ≡ true
weight_fits true used n h more = number_fits used 1 100 n h
weight_fits false used n h more = and_from _ _ (usual_is used n h (more refl)) refl

part_fits : (weighted : Bool) (r : PartRow) → IsPartRow r → (weighted ≡ false → weighs_more r ≡ false) → (part_fields weighted).fits r ≡ true
part_fits weighted r h more =
    and_from _ _ refl (and_from _ _ h.name (and_from _ _ (parent_fits r.parent h.parent) (and_from _ _ (in_range_holds 1 100000000 r.cost h.cost.0 h.cost.1)
    (and_from _ _ (number_fits (is_none r.parent) 1 100 r.per_system h.per_system) (and_from _ _ (in_range_holds 0 63 r.max_depot (omega arith) h.max_depot) (and_from _ _ (in_range_holds 0 63 r.max_base (omega arith) h.max_base)
    (weight_fits weighted (is_none r.parent) r.weight h.weight more)))))))

or_false : (a b : Bool) → (a || b) ≡ false → (a ≡ false) × (b ≡ false)
or_false true b h = absurd cc
or_false false b h = (refl, h)

or_true : (a b : Bool) → (a || b) ≡ true → a ≡ false → b ≡ true
or_true true b h e = absurd cc
or_true false b h e = h

or_none : (b : Bool) → (b || false) ≡ true → b ≡ true
or_none true h = refl
or_none false h = h

-- the last row has a weight where none stands before it
owed_stands : (last heavy : Bool) (x : PartRow) → (last ≡ true → heavy ≡ false → weighs_more x ≡ true) → may_stand (last && not heavy) x ≡ true
owed_stands true true x h = refl
owed_stands true false x h = h refl refl
owed_stands false heavy x h = refl

no_rows : (xs : List PartRow) → length xs ≡ 0 → xs ≡ []
no_rows [] h = refl
no_rows (x ∷ xs) h = absurd (omega (arith, h))

stands : (weighted : Bool) (n k : ℕ) (before : List PartRow) (x : PartRow) (rest : List PartRow) → k + suc (length rest) ≡ n → are_weighted (before ++ x ∷ rest) ≡ weighted → may_stand (weighted && is_owed n before k) x ≡ true
stands true n k before x rest e w =
    owed_stands (suc k == n) (are_weighted before) x
    (λ last light.
    let done : rest ≡ [] = no_rows rest (omega (arith, e, eqb-true (suc k) n last)) in
    let whole : are_weighted (before ++ x ∷ []) ≡ true = subst (λ (r : List PartRow). are_weighted (before ++ x ∷ r) ≡ true) done w in
    let here = or_true (are_weighted before) (are_weighted (x ∷ [])) (sym (list_any-append weighs_more before (x ∷ [])) ∙ whole) light in
    or_none (weighs_more x) here)
stands false n k before x rest e w = refl

light_here : (weighted : Bool) (before : List PartRow) (x : PartRow) (rest : List PartRow) → are_weighted (before ++ x ∷ rest) ≡ weighted → weighted ≡ false → weighs_more x ≡ false
light_here weighted before x rest w e =
    let p = or_false (are_weighted before) (are_weighted (x ∷ rest)) (sym (list_any-append weighs_more before (x ∷ rest)) ∙ w ∙ e) in
    (or_false (weighs_more x) (are_weighted rest) p.1).0

rows_fit : (weighted : Bool) (n k : ℕ) (before rows : List PartRow) → k + length rows ≡ n → AllByRecursion IsPartRow rows → are_weighted (before ++ rows) ≡ weighted → fits_after (part_line weighted n) before (numbers_from k (length rows)) rows ≡ true
rows_fit weighted n k before [] e h w = refl
rows_fit weighted n k before (x ∷ rows) e h w =
    and_from _ _
    (and_from _ _ (part_fits weighted x h.0 (light_here weighted before x rows w)) (stands weighted n k before x rows (omega (arith, e)) w))
    (rows_fit weighted n (suc k) (before ++ x ∷ []) rows (omega (arith, e)) h.1 (ap are_weighted (append_assoc before (x ∷ []) rows) ∙ w))

header_fits : (weighted : Bool) (n : ℕ) → n ≤ 2000 → (weighted ≡ true → 1 ≤ n) → parts_line.fits (header weighted n) ≡ true
header_fits true n most some = and_from _ _ refl (and_from _ _ refl (and_from _ _ (in_range_holds 1 2000 n (some refl) most) refl))
header_fits false n most some = and_from _ _ refl (and_from _ _ refl (in_range_holds 0 2000 n (omega arith) most))

some_rows : (rows : List PartRow) → are_weighted rows ≡ true → 1 ≤ length rows
some_rows [] h = absurd cc
some_rows (x ∷ rows) h = omega arith

lines_fit : (weighted : Bool) (rows : List PartRow) → AllByRecursion IsPartRow rows → are_weighted rows ≡ weighted → length rows ≤ 2000
    → (parts_line.fits (header weighted (length rows)) ≡ true) × ((part_lines weighted (length rows)).fits rows ≡ true)
lines_fit weighted rows h w most =
    (header_fits weighted (length rows) most (λ e. some_rows rows (w ∙ e)), rows_fit weighted (length rows) 0 [] rows (omega arith) h w)

parts_fit_at : (weighted : Bool) (n : ℕ) (rows : List PartRow) → parts_line.fits (header weighted n) ≡ true → (part_lines weighted n).fits rows ≡ true
    → (parts_line.fits (header weighted n) && (part_lines (weights_in (header weighted n)) (count_in (header weighted n))).fits rows) ≡ true
parts_fit_at true n rows h g = and_from _ _ h g
parts_fit_at false n rows h g = and_from _ _ h g

parts_fit : (rows : List PartRow) → AllByRecursion IsPartRow rows → length rows ≤ 2000 → parts.fits rows ≡ true
parts_fit rows h most =
    let p = lines_fit (are_weighted rows) rows h refl most in
    and_from true _ refl (parts_fit_at (are_weighted rows) (length rows) rows p.0 p.1)

-- ---- rates

rate_row_fits : (pair : Pair) (r : RateRow) → r.part.0 ≡ pair.part → r.site.0 ≡ pair.site → IsRateRow pair.line pair.depot r → (rate_line pair).fits r ≡ true
rate_row_fits pair r p k h =
    and_from _ _ (and_from _ _ (eq-eqb r.part.0 pair.part p) (eq-eqb r.site.0 pair.site k))
    (and_from _ _ refl (and_from _ _ refl
    (and_from _ _ (fixed_fits (pair.line && not pair.depot) 4 1000000000 r.demand h.demand) (and_from _ _ (fixed_fits (not pair.depot) 4 10000 r.repair_here h.repair_here)
    (and_from _ _ (fixed_fits (not pair.line) 4 10000 r.share h.share) (in_range_holds 0 999999 r.repair_days (omega arith) h.repair_days))))))

-- ---- a case

module _ (c : CaseRows) (valid : IsCase c) where
  is_depot_at : (k : ℕ) → k < length c.sites → (site_at c.sites k).depot ≡ (k == 0)
  is_depot_at zero h = valid.frame.depot
  is_depot_at (suc k) h = valid.frame.bases (suc k) (omega arith) h ∙ sym (ne_eqb (suc k) 0 (λ e. omega (arith, e)))

  sites_fit : sites.fits c.sites ≡ true
  sites_fit =
      and_from _ _ refl
      (and_from _ _ (and_from _ _ refl (and_from _ _ refl (in_range_holds 2 16 (length c.sites) valid.frame.fewest_sites valid.frame.most_sites)))
      (all_fit site_line no_site c.sites (λ k lt. site_fits (k == 0) (site_at c.sites k) (valid.frame.site_rows k no_site lt) (is_depot_at k lt))))

  few : length c.parts ≤ 2000
  few = valid.frame.most_parts

  rate_fits : (i : ℕ) → i < length c.rates → (rate_line (pair_at c.sites c.parts i)).fits (get_or c.rates i no_rate) ≡ true
  rate_fits i lt =
      let n = length c.sites in
      let some : 0 < n = omega (arith, valid.frame.fewest_sites) in
      let within : i < length c.parts * n = omega (arith, lt, valid.rate_count) in
      let p = i / n in
      let k = i % n in
      let part = div_below i n (length c.parts) some within in
      let site = mod_below i n some in
      let r = get_or c.rates i no_rate in
      let place : rate_at c p k ≡ r = ap (λ (j : ℕ). get_or c.rates j no_rate) (div-add-mod' i n) in
      let ids = valid.pairs p k part site in
      let same_part : r.part.0 ≡ p = ap (λ (x : RateRow). x.part.0) (sym place) ∙ ids.0 in
      let same_site : r.site.0 ≡ k = ap (λ (x : RateRow). x.site.0) (sym place) ∙ ids.1 in
      let depot : (r.site.0 == 0) ≡ (site_at c.sites k).depot = ap (λ (x : ℕ). x == 0) same_site ∙ sym (is_depot_at k site) in
      let fields : IsRateRow (is_line (part_at c.parts r.part.0)) (r.site.0 == 0) r = (valid.rate_rows i no_rate lt).fields in
      let fields_here : IsRateRow (is_line (part_at c.parts p)) (site_at c.sites k).depot r =
      subst (λ (b : Bool). IsRateRow (is_line (part_at c.parts p)) b r) depot (subst (λ (q : ℕ). IsRateRow (is_line (part_at c.parts q)) (r.site.0 == 0) r) same_part fields) in
      rate_row_fits (pair_at c.sites c.parts i) r same_part same_site fields_here

  rates_fit : (rates c.sites c.parts).fits c.rates ≡ true
  rates_fit =
      let count = length c.parts * length c.sites in
      let keys : length (numbers_from 0 count) ≡ length c.rates = length_numbers_from 0 count ∙ sym valid.rate_count in
      and_from _ _ refl
      (and_from _ _ (and_from _ _ refl (and_from _ _ refl (in_range_holds (length (numbers_from 0 count)) (length (numbers_from 0 count)) (length c.rates) (omega (arith, keys)) (omega (arith, keys)))))
      (subst (λ (n : ℕ). fits_after (λ _ i. rate_line (pair_at c.sites c.parts i)) [] (numbers_from 0 n) c.rates ≡ true) valid.rate_count (all_fit (λ i. rate_line (pair_at c.sites c.parts i)) no_rate c.rates rate_fits)))

  -- a valid case fits the format in which it is written
  pub case_fits : case_format.fits c ≡ true
  case_fits = and_from _ _ refl (and_from _ _ sites_fit (and_from _ _ (parts_fit c.parts (recursion_from_All IsPartRow c.parts valid.frame.part_rows) few) rates_fit))
