-- The rows that lines have: their fields and their places.
use Rattle.std.proofs.Common.{◌≡◌, ℕ, zero, suc, ◌+◌, ◌<◌, ◌≤◌, Bool, true, false, cond, ◌&&◌, List, [], ◌∷◌, ◌++◌, length, get_or, Option, Some, None, sym, ap, subst, ◌∙◌, arith}
use Rattle.std.specs.Prelude.{not, ◌==◌, is_none}
use Rattle.std.specs.List.{All}
use Rattle.std.proofs.lemmas.Bool.{and_parts, eqb-true, false≢true, not-true}
use Rattle.std.proofs.lemmas.List.Elements.{All-from_get_or}
use Rattle.line_text.specs.Formats.{Format, one, fits_after}
use Rattle.line_text.specs.Files.{line}
use Rattle.line_text.specs.Texts.{in_range, numbers_from, only}
use Rattle.spares_input.specs.Names.{is_name}
use Rattle.spares_input.specs.Rows.{IsNumberField, IsSiteRow, IsPartRow, IsRateRow, no_site, no_part}
use Rattle.spares_input.specs.declared.rows.SiteRow.{SiteRow}
use Rattle.spares_input.specs.declared.rows.PartRow.{PartRow}
use Rattle.spares_input.specs.declared.rows.RateRow.{RateRow}
use Rattle.case_lines.specs.Grammar.{number_if, fixed_if, chance_if, days_field, depot_fields, base_fields, site_line, parent_field, weight_field, part_fields, may_stand, is_owed, part_line, Pair, rate_line}
use Rattle.case_lines.proofs.Valid.{part_fields_fit, range_parts}

-- ---- fields

number_is : (has : Bool) (least most n : ℕ) → (number_if has least most).fits n ≡ true → IsNumberField has least most n
number_is true least most n h = record { within = λ e. range_parts least most n h; empty = λ e. absurd (false≢true (sym e)) }
number_is false least most n h = record { within = λ e. absurd (false≢true e); empty = λ e. eqb-true n 0 (and_parts (n == 0) true h).0 }

fixed_is : (has : Bool) (places most n : ℕ) → (fixed_if has places most).fits n ≡ true → IsNumberField has 0 most n
fixed_is true places most n h = record { within = λ e. range_parts 0 most n h; empty = λ e. absurd (false≢true (sym e)) }
fixed_is false places most n h = record { within = λ e. absurd (false≢true e); empty = λ e. eqb-true n 0 (and_parts (n == 0) true h).0 }

-- ---- sites

unused : (n least most : ℕ) (b : Bool) → b ≡ false → n ≡ 0 → IsNumberField b least most n
unused n least most b e h = record { within = λ t. absurd (false≢true (sym e ∙ t)); empty = λ t. h }

used : (n least most : ℕ) (b : Bool) → b ≡ true → (least ≤ n) × (n ≤ most) → IsNumberField b least most n
used n least most b e h = record { within = λ t. h; empty = λ t. absurd (false≢true (sym t ∙ e)) }

depot_row : (s : SiteRow) → depot_fields.fits s ≡ true → IsSiteRow s × (s.depot ≡ true)
depot_row s h =
    let own = s.depot && (s.systems == 0) && (s.ship == 0) in
    let rest = is_name s.name && (true && (true && true)) in
    let a = and_parts own rest h in
    let b = and_parts (s.depot && (s.systems == 0)) (s.ship == 0) a.0 in
    let c = and_parts s.depot (s.systems == 0) b.0 in
    let none : not s.depot ≡ false = ap not c.0 in
    (record { name = (and_parts (is_name s.name) (true && (true && true)) a.1).0; systems = unused s.systems 1 10000 (not s.depot) none (eqb-true s.systems 0 c.1); ship = unused s.ship 0 999999 (not s.depot) none (eqb-true s.ship 0 b.1) }, c.0)

base_row : (s : SiteRow) → base_fields.fits s ≡ true → IsSiteRow s × (s.depot ≡ false)
base_row s h =
    let days = in_range 0 999999 s.ship in
    let systems = in_range 1 10000 s.systems in
    let a = and_parts (not s.depot) (is_name s.name && (true && (systems && days))) h in
    let b = and_parts (is_name s.name) (true && (systems && days)) a.1 in
    let c = and_parts systems days (and_parts true (systems && days) b.1).1 in
    (record { name = b.0; systems = used s.systems 1 10000 (not s.depot) a.0 (range_parts 1 10000 s.systems c.0); ship = used s.ship 0 999999 (not s.depot) a.0 (range_parts 0 999999 s.ship c.1) }, not-true s.depot a.0)

site_row : (c : Bool) (s : SiteRow) → (cond c (one (line depot_fields)) (one (line base_fields))).fits s ≡ true → IsSiteRow s × (s.depot ≡ c)
site_row true s h = depot_row s h
site_row false s h = base_row s h

-- ---- parts

parent_is : (o : Option (List ℕ)) → parent_field.fits o ≡ true → (name : List ℕ) → o ≡ Some name → is_name name ≡ true
parent_is None h name e = absurd cc
parent_is (Some x) h name e = let same : x ≡ name = cc in subst (λ (y : List ℕ). is_name y ≡ true) same h

weight_is : (weighted used : Bool) (n : ℕ) → (weight_field weighted used).fits n ≡ true → IsNumberField used 1 100 n
weight_is true used n h = number_is used 1 100 n h
weight_is false true n h = let e = eqb-true n 1 (and_parts (n == 1) true h).0 in record { within = λ t. (omega (arith, e), omega (arith, e)); empty = λ t. absurd (false≢true (sym t)) }
weight_is false false n h = let e = eqb-true n 0 (and_parts (n == 0) true h).0 in record { within = λ t. absurd (false≢true t); empty = λ t. e }

part_row : (weighted : Bool) (p : PartRow) → (part_fields weighted).fits p ≡ true → IsPartRow p
part_row weighted p h =
    let fits = part_fields_fit weighted p h in
    record {
      name = fits.name;
      parent = parent_is p.parent fits.parent;
      cost = range_parts 1 100000000 p.cost fits.cost;
      per_system = number_is (is_none p.parent) 1 100 p.per_system fits.per_system;
      max_depot = (range_parts 0 63 p.max_depot fits.max_depot).1;
      max_base = (range_parts 0 63 p.max_base fits.max_base).1;
      weight = weight_is weighted (is_none p.parent) p.weight fits.weight;
    }

owed_row : (weighted owed : Bool) (p : PartRow) → (only (may_stand owed) (line (part_fields weighted))).fits p ≡ true → IsPartRow p
owed_row weighted owed p h = part_row weighted p (and_parts ((part_fields weighted).fits p) (may_stand owed p) h).0

-- ---- rates

-- a row that the line of a pair can tell is of that pair, and valid for its kinds of part and site
pub rate_row : (pair : Pair) (r : RateRow) → (rate_line pair).fits r ≡ true → (r.part.0 ≡ pair.part) × ((r.site.0 ≡ pair.site) × IsRateRow pair.line pair.depot r)
rate_row pair r h =
    let days = days_field.fits r.repair_days in
    let share = (chance_if (not pair.line)).fits r.share && days in
    let here = (chance_if (not pair.depot)).fits r.repair_here && share in
    let demand = (fixed_if (pair.line && not pair.depot) 4 1000000000).fits r.demand && here in
    let ids = (r.part.0 == pair.part) && (r.site.0 == pair.site) in
    let a = and_parts ids (true && (true && demand)) h in
    let b = and_parts (r.part.0 == pair.part) (r.site.0 == pair.site) a.0 in
    let c = (and_parts true demand (and_parts true (true && demand) a.1).1).1 in
    let d = and_parts ((fixed_if (pair.line && not pair.depot) 4 1000000000).fits r.demand) here c in
    let e = and_parts ((chance_if (not pair.depot)).fits r.repair_here) share d.1 in
    let f = and_parts ((chance_if (not pair.line)).fits r.share) days e.1 in (
      eqb-true r.part.0 pair.part b.0,
      (
        eqb-true r.site.0 pair.site b.1,
        record {
          demand = fixed_is (pair.line && not pair.depot) 4 1000000000 r.demand d.0;
          repair_here = fixed_is (not pair.depot) 4 10000 r.repair_here e.0;
          share = fixed_is (not pair.line) 4 10000 r.share f.0;
          repair_days = (range_parts 0 999999 r.repair_days f.1).1;
        },
      ),
    )

-- ---- rows

-- each value is in the format of its place
pub fits_at : {A : Type 0} (format : ℕ → Format A) (before : List A) (first n : ℕ) (xs : List A) (d : A) → fits_after (λ _ k. format k) before (numbers_from first n) xs ≡ true
    → (i : ℕ) → i < length xs → (format (first + i)).fits (get_or xs i d) ≡ true
fits_at format before first n [] d h i lt = absurd (omega (arith, lt))
fits_at format before first zero (x ∷ xs) d h i lt = absurd (false≢true h)
fits_at format before first (suc n) (x ∷ xs) d h zero lt =
    let e : first ≡ first + 0 = omega arith in
    subst (λ (k : ℕ). (format k).fits x ≡ true) e (and_parts ((format first).fits x) (fits_after (λ _ k. format k) (before ++ x ∷ []) (numbers_from (suc first) n) xs) h).0
fits_at format before first (suc n) (x ∷ xs) d h (suc i) lt =
    let e : suc first + i ≡ first + suc i = omega arith in
    subst (λ (k : ℕ). (format k).fits (get_or xs i d) ≡ true) e
    (fits_at format (before ++ x ∷ []) (suc first) n xs d (and_parts ((format first).fits x) (fits_after (λ _ k. format k) (before ++ x ∷ []) (numbers_from (suc first) n) xs) h).1 i (omega (arith, lt)))

-- each site that the lines tell is valid, and the first alone is the depot
pub sites_at : (xs : List SiteRow) (n : ℕ) → fits_after (λ _ k. site_line k) [] (numbers_from 0 n) xs ≡ true → (i : ℕ) → i < length xs → IsSiteRow (get_or xs i no_site) × ((get_or xs i no_site).depot ≡ (i == 0))
sites_at xs n h i lt =
    let e : 0 + i ≡ i = omega arith in
    site_row (i == 0) (get_or xs i no_site) (subst (λ (k : ℕ). (site_line k).fits (get_or xs i no_site) ≡ true) e (fits_at site_line [] 0 n xs no_site h i lt))

parts_at : (weighted : Bool) (n : ℕ) (before : List PartRow) (keys : List ℕ) (xs : List PartRow) → fits_after (part_line weighted n) before keys xs ≡ true → (i : ℕ) → i < length xs → IsPartRow (get_or xs i no_part)
parts_at weighted n before keys [] h i lt = absurd (omega (arith, lt))
parts_at weighted n before [] (x ∷ xs) h i lt = absurd (false≢true h)
parts_at weighted n before (k ∷ ks) (x ∷ xs) h zero lt =
    owed_row weighted (weighted && is_owed n before k) x (and_parts ((part_line weighted n before k).fits x) (fits_after (part_line weighted n) (before ++ x ∷ []) ks xs) h).0
parts_at weighted n before (k ∷ ks) (x ∷ xs) h (suc i) lt =
    parts_at weighted n (before ++ x ∷ []) ks xs (and_parts ((part_line weighted n before k).fits x) (fits_after (part_line weighted n) (before ++ x ∷ []) ks xs) h).1 i (omega (arith, lt))

-- each part that the lines tell is valid
pub part_rows : (weighted : Bool) (n : ℕ) (xs : List PartRow) → fits_after (part_line weighted n) [] (numbers_from 0 n) xs ≡ true → All IsPartRow xs
part_rows weighted n xs h = All-from_get_or IsPartRow xs no_part (parts_at weighted n [] (numbers_from 0 n) xs h)
