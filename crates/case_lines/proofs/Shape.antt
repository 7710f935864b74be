-- A case is exact.
use Rattle.std.proofs.Common.{◌≡◌, ℕ, zero, suc, ◌+◌, ◌*◌, ◌/◌, ◌%◌, ◌<◌, ◌≤◌, Bool, true, false, cond, ◌&&◌, List, [], ◌∷◌, ◌++◌, length, Option, Some, None, refl, sym, ap, ◌∙◌, append_assoc, arith}
use Rattle.std.specs.Prelude.{◌==◌, nat_le, option_map, is_none}
use Rattle.std.specs.List.{AllByRecursion, slice_split}
use Rattle.std.proofs.lemmas.Bool.{and_parts, eqb-true, eq-eqb, leb-true}
use Rattle.std.proofs.lemmas.Nat.{div_below, mod_below, mul-le}
use Rattle.std.proofs.lemmas.List.Folds.{list_any-append}
use Rattle.line_text.specs.Formats.{Token, Format, one, and_then, fits_after}
use Rattle.line_text.specs.Files.{line, comma, unended}
use Rattle.line_text.specs.Texts.{number, word, count_fields, count_line, numbers_from, Either, Left, Right, only}
use Rattle.line_text.specs.Exact.{IsExact, IsField, IsLine}
use Rattle.line_text.proofs.Public.{one_is_exact, both_are_exact, as_shape_is_exact, each_after_is_exact, length_after, line_is_exact, split_of, unended_again, number_is_exact, word_is_exact, a_field, count_fields_are_exact, one_for_each_is_exact, length_numbers_from, either_is_exact}
use Rattle.spares_input.specs.Names.{is_name}
use Rattle.spares_input.specs.Frames.{site_at, part_at}
use Rattle.spares_input.specs.declared.rows.SiteRow.{SiteRow}
use Rattle.spares_input.specs.declared.rows.PartRow.{PartRow}
use Rattle.case_lines.specs.Grammar.{depot_fields, base_fields, site_line, sites, may_stand, weight_field, part_fields, weighs_more, are_weighted, is_owed, part_line, part_lines, weights_fields, parts_line, count_in, weights_in, header_of, parts, pair_at, rate_line, rates, case_format}
use Rattle.case_lines.proofs.Valid.{part_fields_fit}
use Rattle.case_lines.proofs.Exact.{sites_are_exact, part_line_is_exact, rate_line_is_exact}
use lib.Chars.{codes}
use Rattle.list_laws.proofs.Public.{all_are}

-- ---- the line before the parts

plain_count_is_exact : IsExact IsField (count_fields (codes "parts") 0 2000)
plain_count_is_exact = count_fields_are_exact (codes "parts") 0 2000 (a_field (codes "parts") refl) (omega arith) (omega arith)

weights_are_exact : IsExact IsField weights_fields
weights_are_exact =
    as_shape_is_exact IsField (and_then (word (codes "parts")) (λ _. and_then (one (number 1 2000)) (λ _. word (codes "weights")))) (λ x. x.1.0) (λ n. (tt, (n, tt))) (λ _. true)
    (both_are_exact IsField _ _ (word_is_exact (codes "parts") (a_field (codes "parts") refl)) (λ _ _. both_are_exact IsField _ _ (one_is_exact IsField (number 1 2000) (number_is_exact 1 2000 (omega arith) (omega arith))) (λ _ _. word_is_exact (codes "weights") (a_field (codes "weights") refl))))
    (λ a f. (refl, refl)) (λ b f g. refl)

fields_again : {A : Type 0} (fields : Format A) → IsExact IsField fields → (a : A) → fields.fits a ≡ true → 0 < length (fields.print a) → option_map (slice_split comma) (unended ((line fields).print a)) ≡ Some (fields.print a)
fields_again fields e a f some = rw (unended_again _, split_of (fields.print a) some (e.plain a f)) refl

abbrev size : Option (List Token) → ℕ
size None = 0
size (Some ts) = length ts

headers_apart : (a b : ℕ) → (count_fields (codes "parts") 0 2000).fits a ≡ true → weights_fields.fits b ≡ true → (line (count_fields (codes "parts") 0 2000)).print a ≡ (line weights_fields).print b → ⊥
headers_apart a b f g e =
    let x = fields_again (count_fields (codes "parts") 0 2000) plain_count_is_exact a f (omega arith) in
    let y = fields_again weights_fields weights_are_exact b g (omega arith) in
    let z : 2 ≡ 3 = ap size (sym x ∙ ap (λ (l : Token). option_map (slice_split comma) (unended l)) e ∙ y) in
    absurd (omega (arith, z))

header_is_exact : IsExact IsLine parts_line
header_is_exact =
    one_is_exact IsLine _ (either_is_exact IsLine (line (count_fields (codes "parts") 0 2000)) (line weights_fields)
    (line_is_exact (count_fields (codes "parts") 0 2000) plain_count_is_exact (λ a. omega arith))
    (line_is_exact weights_fields weights_are_exact (λ a. omega arith))
    headers_apart)

-- ---- which weights stand in the rows

row_part : (weighted owed : Bool) (p : PartRow) → (only (may_stand owed) (line (part_fields weighted))).fits p ≡ true → ((part_fields weighted).fits p ≡ true) × (may_stand owed p ≡ true)
row_part weighted owed p h = and_parts ((part_fields weighted).fits p) (may_stand owed p) h

usual_small : (line : Bool) (w : ℕ) → (weight_field false line).fits w ≡ true → nat_le 2 w ≡ false
usual_small true w h = let e = eqb-true w 1 (and_parts (w == 1) true h).0 in rw e refl
usual_small false w h = let e = eqb-true w 0 (and_parts (w == 0) true h).0 in rw e refl

owed_more : (owed : Bool) (p : PartRow) → owed ≡ true → may_stand owed p ≡ true → weighs_more p ≡ true
owed_more true p e h = h
owed_more false p e h = absurd cc

unweighted : (n : ℕ) (before : List PartRow) (keys : List ℕ) (xs : List PartRow) → fits_after (part_line false n) before keys xs ≡ true → are_weighted xs ≡ false
unweighted n before [] [] h = refl
unweighted n before [] (x ∷ xs) h = absurd cc
unweighted n before (k ∷ ks) [] h = absurd cc
unweighted n before (k ∷ ks) (x ∷ xs) h =
    let p = and_parts ((part_line false n before k).fits x) (fits_after (part_line false n) (before ++ x ∷ []) ks xs) h in
    let w = part_fields_fit false x (row_part false false x p.0).0 in
    rw (usual_small (is_none x.parent) x.weight w.weight, unweighted n (before ++ x ∷ []) ks xs p.1) refl

last_weighted : (n k : ℕ) (before : List PartRow) (x : PartRow) (c : Bool) → are_weighted before ≡ c → suc k ≡ n → (part_line true n before k).fits x ≡ true → are_weighted (before ++ x ∷ []) ≡ true
last_weighted n k before x true w e h = rw (list_any-append weighs_more before (x ∷ []), w) refl
last_weighted n k before x false w e h =
    let owed : is_owed n before k ≡ true = rw (w, eq-eqb (suc k) n e) refl in
    let more = owed_more (is_owed n before k) x owed (row_part true (is_owed n before k) x h).1 in
    rw (list_any-append weighs_more before (x ∷ []), w, more) refl

weighted_end : (n j k : ℕ) (before xs : List PartRow) → k + suc j ≡ n → fits_after (part_line true n) before (numbers_from k (suc j)) xs ≡ true → are_weighted (before ++ xs) ≡ true
weighted_end n j k before [] e h = absurd cc
weighted_end n zero k before (x ∷ []) e h =
    last_weighted n k before x (are_weighted before) refl (omega (arith, e)) (and_parts ((part_line true n before k).fits x) true h).0
weighted_end n zero k before (x ∷ y ∷ xs) e h = let p = (and_parts ((part_line true n before k).fits x) false h).1 in absurd cc
weighted_end n (suc j) k before (x ∷ xs) e h =
    let p = and_parts ((part_line true n before k).fits x) (fits_after (part_line true n) (before ++ x ∷ []) (numbers_from (suc k) (suc j)) xs) h in
    ap are_weighted (sym (append_assoc before (x ∷ []) xs)) ∙ weighted_end n j (suc k) (before ++ x ∷ []) xs (omega (arith, e)) p.1

abbrev plain_header : ℕ → Either ℕ ℕ
plain_header n = Left n

abbrev weights_header : ℕ → Either ℕ ℕ
weights_header n = Right n

row_count : (weighted : Bool) (n : ℕ) (rows : List PartRow) → (part_lines weighted n).fits rows ≡ true → length rows ≡ n
row_count weighted n rows h = length_after (part_line weighted n) [] (numbers_from 0 n) rows h ∙ length_numbers_from 0 n

-- the rows tell the line before them
header_back : (h : Either ℕ ℕ) (rows : List PartRow) → parts_line.fits h ≡ true → (part_lines (weights_in h) (count_in h)).fits rows ≡ true → header_of rows ≡ h
header_back (Left n) rows f g = rw (unweighted n [] (numbers_from 0 n) rows g) (ap plain_header (row_count false n rows g))
header_back (Right zero) rows f g = absurd (let p = (and_parts false true (and_parts true false f).1).0 in cc)
header_back (Right (suc j)) rows f g = rw (weighted_end (suc j) j 0 [] rows (omega arith) g) (ap weights_header (row_count true (suc j) rows g))

part_lines_are_exact : (weighted : Bool) (n : ℕ) → IsExact IsLine (part_lines weighted n)
part_lines_are_exact weighted n = each_after_is_exact IsLine [] (numbers_from 0 n) (part_line weighted n) (all_are (λ k. (b : List PartRow) → IsExact IsLine (part_line weighted n b k)) (numbers_from 0 n) (λ k b. part_line_is_exact weighted n b k))

abbrev headed : List PartRow → Either ℕ ℕ → Either ℕ ℕ × List PartRow
headed rows h = (h, rows)

-- the lines of parts are an exact format
pub parts_are_exact : IsExact IsLine parts
parts_are_exact =
    as_shape_is_exact IsLine (and_then parts_line (λ h. part_lines (weights_in h) (count_in h))) (λ x. x.1) (λ rows. (header_of rows, rows)) (λ _. true)
    (both_are_exact IsLine parts_line (λ h. part_lines (weights_in h) (count_in h)) header_is_exact (λ h _. part_lines_are_exact (weights_in h) (count_in h)))
    (λ a f. let p = and_parts (parts_line.fits a.0) ((part_lines (weights_in a.0) (count_in a.0)).fits a.1) f in (ap (headed a.1) (header_back a.0 a.1 p.0 p.1), refl))
    (λ b f g. refl)

-- ---- names of sites and parts that have a text

abbrev IsNamedSite : SiteRow → Type 0
IsNamedSite s = is_name s.name ≡ true

abbrev IsNamedPart : PartRow → Type 0
IsNamedPart p = is_name p.name ≡ true

site_named : (c : Bool) (s : SiteRow) → (cond c (one (line depot_fields)) (one (line base_fields))).fits s ≡ true → is_name s.name ≡ true
site_named true s h = (and_parts _ _ (and_parts _ _ h).1).0
site_named false s h = (and_parts _ _ (and_parts _ _ h).1).0

each_named : (before : List SiteRow) (keys : List ℕ) (xs : List SiteRow) → fits_after (λ _ k. site_line k) before keys xs ≡ true → AllByRecursion IsNamedSite xs
each_named before [] [] h = tt
each_named before [] (x ∷ xs) h = absurd cc
each_named before (k ∷ ks) [] h = absurd cc
each_named before (k ∷ ks) (x ∷ xs) h =
    let p = and_parts ((site_line k).fits x) (fits_after (λ _ k. site_line k) (before ++ x ∷ []) ks xs) h in
    (site_named (k == 0) x p.0, each_named (before ++ x ∷ []) ks xs p.1)

site_parts : (s : List SiteRow) → sites.fits s ≡ true → ((count_line (codes "sites") 2 16).fits (length s) ≡ true) × (fits_after (λ _ k. site_line k) [] (numbers_from 0 (length s)) s ≡ true)
site_parts s h =
    let count = (count_line (codes "sites") 2 16).fits (length s) in
    let rows = fits_after (λ _ k. site_line k) [] (numbers_from 0 (length s)) s in
    and_parts count rows (and_parts true (count && rows) h).1

count_within : (w : Token) (least most n : ℕ) → (count_fields w least most).fits n ≡ true → (least ≤ n) × (n ≤ most)
count_within w least most n h =
    let range = nat_le least n && nat_le n most in
    let p = and_parts (nat_le least n) (nat_le n most) (and_parts true range (and_parts true (true && range) h).1).1 in
    (leb-true least n p.0, leb-true n most p.1)

weights_within : (n : ℕ) → weights_fields.fits n ≡ true → n ≤ 2000
weights_within n h =
    let range = nat_le 1 n && nat_le n 2000 in
    leb-true n 2000 (and_parts (nat_le 1 n) (nat_le n 2000) (and_parts range true (and_parts true (range && true) (and_parts true (true && (range && true)) h).1).1).0).1

sites_named : (s : List SiteRow) → sites.fits s ≡ true → AllByRecursion IsNamedSite s
sites_named s h = each_named [] (numbers_from 0 (length s)) s (site_parts s h).1

rows_named : (weighted : Bool) (n : ℕ) (before : List PartRow) (keys : List ℕ) (xs : List PartRow) → fits_after (part_line weighted n) before keys xs ≡ true → AllByRecursion IsNamedPart xs
rows_named weighted n before [] [] h = tt
rows_named weighted n before [] (x ∷ xs) h = absurd cc
rows_named weighted n before (k ∷ ks) [] h = absurd cc
rows_named weighted n before (k ∷ ks) (x ∷ xs) h =
    let p = and_parts ((part_line weighted n before k).fits x) (fits_after (part_line weighted n) (before ++ x ∷ []) ks xs) h in
    ((part_fields_fit weighted x (row_part weighted (weighted && is_owed n before k) x p.0).0).name, rows_named weighted n (before ++ x ∷ []) ks xs p.1)

part_parts : (rows : List PartRow) → parts.fits rows ≡ true → (parts_line.fits (header_of rows) ≡ true) × ((part_lines (weights_in (header_of rows)) (count_in (header_of rows))).fits rows ≡ true)
part_parts rows h =
    let head = parts_line.fits (header_of rows) in
    let lines = (part_lines (weights_in (header_of rows)) (count_in (header_of rows))).fits rows in
    and_parts head lines (and_parts true (head && lines) h).1

parts_named : (rows : List PartRow) → parts.fits rows ≡ true → AllByRecursion IsNamedPart rows
parts_named rows h = rows_named (weights_in (header_of rows)) (count_in (header_of rows)) [] (numbers_from 0 (count_in (header_of rows))) rows (part_parts rows h).1

-- lines of sites that are written hold 2 to 16
pub few_sites : (s : List SiteRow) → sites.fits s ≡ true → (2 ≤ length s) × (length s ≤ 16)
few_sites s h = count_within (codes "sites") 2 16 (length s) (site_parts s h).0

few_at : (c : Bool) (n : ℕ) → parts_line.fits (cond c (Right n) (Left n)) ≡ true → n ≤ 2000
few_at true n h = weights_within n h
few_at false n h = (count_within (codes "parts") 0 2000 n h).1

-- lines of parts that are written hold at most 2000
pub few_parts : (rows : List PartRow) → parts.fits rows ≡ true → length rows ≤ 2000
few_parts rows h = few_at (are_weighted rows) (length rows) (part_parts rows h).0

-- ---- rates

-- numbers in a row
numbers_are : (Q : ℕ → Type 0) (first n : ℕ) → ((i : ℕ) → i < first + n → Q i) → AllByRecursion Q (numbers_from first n)
numbers_are Q first zero h = tt
numbers_are Q first (suc n) h = (h first (omega arith), numbers_are Q (suc first) n (λ i lt. h i (omega (arith, lt))))

site_at_named : (ss : List SiteRow) (k : ℕ) → AllByRecursion IsNamedSite ss → k < length ss → IsNamedSite (site_at ss k)
site_at_named [] k h lt = absurd (omega (arith, lt))
site_at_named (s ∷ ss) zero h lt = h.0
site_at_named (s ∷ ss) (suc k) h lt = site_at_named ss k h.1 (omega (arith, lt))

part_at_named : (ps : List PartRow) (p : ℕ) → AllByRecursion IsNamedPart ps → p < length ps → IsNamedPart (part_at ps p)
part_at_named [] p h lt = absurd (omega (arith, lt))
part_at_named (r ∷ ps) zero h lt = h.0
part_at_named (r ∷ ps) (suc p) h lt = part_at_named ps p h.1 (omega (arith, lt))

pair_is_exact : (ss : List SiteRow) (ps : List PartRow) (i : ℕ) → 0 < length ss → AllByRecursion IsNamedSite ss → AllByRecursion IsNamedPart ps → i < length ps * length ss → IsExact IsLine (rate_line (pair_at ss ps i))
pair_is_exact ss ps i some a b lt =
    rate_line_is_exact (pair_at ss ps i)
    (part_at_named ps (i / length ss) b (div_below i (length ss) (length ps) some lt))
    (site_at_named ss (i % length ss) a (mod_below i (length ss) some))

pairs_below : (n m : ℕ) → n ≤ 2000 → m ≤ 16 → n * m ≤ 32000
pairs_below n m h g = mul-le n m 2000 16 h g

rates_are_exact : (s : List SiteRow) (p : List PartRow) → sites.fits s ≡ true → parts.fits p ≡ true → IsExact IsLine (rates s p)
rates_are_exact s p h g =
    one_for_each_is_exact (codes "rates") (numbers_from 0 (length p * length s)) (λ i. rate_line (pair_at s p i)) (a_field (codes "rates") refl)
    (omega (arith, length_numbers_from 0 (length p * length s), pairs_below (length p) (length s) (few_parts p g) (few_sites s h).1))
    (numbers_are (λ i. IsExact IsLine (rate_line (pair_at s p i))) 0 (length p * length s)
    (λ i lt. pair_is_exact s p i (omega (arith, (few_sites s h).0)) (sites_named s h) (parts_named p g) (omega (arith, lt))))

-- ---- a case

-- the lines of a case are an exact format
pub case_is_exact : IsExact IsLine case_format
case_is_exact =
    as_shape_is_exact IsLine (and_then sites (λ s. and_then parts (λ p. rates s p)))
    (λ x. record { sites = x.0; parts = x.1.0; rates = x.1.1 }) (λ c. (c.sites, (c.parts, c.rates))) (λ _. true)
    (both_are_exact IsLine _ _ sites_are_exact (λ s h. both_are_exact IsLine _ _ parts_are_exact (λ p g. rates_are_exact s p h g)))
    (λ a f. (refl, refl))
    (λ c h f. refl)
