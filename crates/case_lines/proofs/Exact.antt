-- The lines of sites, parts and rates are exact.
use Rattle.std.proofs.Common.{◌≡◌, ◌≢◌, ℕ, ◌^◌, ◌<◌, ◌≤◌, Bool, true, false, cond, ◌&&◌, List, [], ◌∷◌, None, refl, sym, arith}
use Rattle.std.specs.Prelude.{not, ◌==◌, nat_le, is_none}
use Rattle.std.specs.List.{list_all}
use Rattle.std.proofs.lemmas.Bool.{and_parts, eqb-true, eq-eqb, leb-true, ne_eqb, not-true}
use Rattle.line_text.specs.Formats.{Token, one, and_then}
use Rattle.line_text.specs.Files.{line}
use Rattle.line_text.specs.Texts.{number, fixed, plain, word, only}
use Rattle.line_text.specs.Exact.{IsExactText, IsExact, IsField, IsPlain, IsLine}
use Rattle.line_text.proofs.Public.{one_is_exact, both_are_exact, as_shape_is_exact, line_is_exact, number_is_exact, plain_is_exact, word_is_exact, counted_is_exact, no_field_is_exact, empty_field_is_exact, a_field, fixed_is_exact, if_any_is_exact, only_is_exact}
use Rattle.spares_input.specs.Names.{is_name, name_byte, has_length, is_trimmed}
use Rattle.spares_input.specs.declared.rows.SiteRow.{SiteRow}
use Rattle.spares_input.specs.declared.rows.PartRow.{PartRow}
use Rattle.spares_input.specs.declared.rows.RateRow.{RateRow}
use Rattle.case_lines.specs.Grammar.{is_zero, name_field, number_if, fixed_if, chance_if, days_field, depot_fields, base_fields, site_line, sites, parent_field, limit_field, usual, weight_field, part_fields, may_stand, is_owed, part_line, Pair, rate_fields, rate_line}
use lib.Chars.{codes}

-- ---- names

plain_byte : (b : ℕ) → name_byte b ≡ true → IsPlain b
plain_byte b h =
    let p = and_parts (nat_le 0x20 b && nat_le b 0x7E && not (b == 0x2C)) (not (b == 0x22)) h in
    let q = and_parts (nat_le 0x20 b && nat_le b 0x7E) (not (b == 0x2C)) p.0 in
    let r = and_parts (nat_le 0x20 b) (nat_le b 0x7E) q.0 in
    (not-true (b == 0x2C) q.1, ne_eqb b 10 (λ e. omega (arith, e, leb-true 0x20 b r.0)))

plain_name : (t : Token) → list_all name_byte t ≡ true → IsField t
plain_name [] h = tt
plain_name (b ∷ t) h = let p = and_parts (name_byte b) (list_all name_byte t) h in (plain_byte b p.0, plain_name t p.1)

pub name_is_plain : (t : Token) → is_name t ≡ true → IsField t
unfolding is_name
name_is_plain t h = plain_name t (and_parts (has_length t && is_trimmed t) (list_all name_byte t) h).1

a_name : is_name (65 ∷ []) ≡ true
unfolding is_name
a_name = refl

no_name : is_name [] ≡ false
unfolding is_name
no_name = refl

some_name : (t : Token) → is_name t ≡ true → t ≢ []
some_name [] h = λ e. absurd (let z = no_name in cc)
some_name (b ∷ t) h = λ e. absurd cc

plain_name_is_exact : IsExactText IsField (plain is_name)
plain_name_is_exact = plain_is_exact is_name (65 ∷ []) a_name name_is_plain

name_is_exact : IsExact IsField name_field
name_is_exact = one_is_exact IsField (plain is_name) plain_name_is_exact

-- the word of a name
named_is_exact : (t : Token) → is_name t ≡ true → IsExact IsField (word t)
named_is_exact t h = word_is_exact t (name_is_plain t h)

-- ---- numbers

-- a field of a number within a range is an exact format
pub number_field : (least most : ℕ) → least ≤ most → most < 10 ^ 64 → IsExact IsField (one (number least most))
number_field least most h m = one_is_exact IsField (number least most) (number_is_exact least most h m)

fixed_field : (places most : ℕ) → most < 10 ^ 64 → IsExact IsField (one (fixed places 0 most))
fixed_field places most m = one_is_exact IsField (fixed places 0 most) (fixed_is_exact places 0 most (omega arith) m)

zero_is : (b : ℕ) → is_zero b ≡ true → 0 ≡ b
zero_is b h = sym (eqb-true b 0 h)

number_if_is_exact : (has : Bool) (least most : ℕ) → least ≤ most → most < 10 ^ 64 → IsExact IsField (number_if has least most)
number_if_is_exact true least most h m = number_field least most h m
number_if_is_exact false least most h m = empty_field_is_exact 0 is_zero refl zero_is

fixed_if_is_exact : (has : Bool) (places most : ℕ) → most < 10 ^ 64 → IsExact IsField (fixed_if has places most)
fixed_if_is_exact true places most m = fixed_field places most m
fixed_if_is_exact false places most m = empty_field_is_exact 0 is_zero refl zero_is

days_are_exact : IsExact IsField days_field
days_are_exact = fixed_field 2 999999 (omega arith)

-- ---- sites

depot_values : (s : SiteRow) → (s.depot && (s.systems == 0) && (s.ship == 0)) ≡ true → (record { name = s.name; depot = true; systems = 0; ship = 0 }) ≡ s
depot_values s h =
    let p = and_parts (s.depot && (s.systems == 0)) (s.ship == 0) h in
    let q = and_parts s.depot (s.systems == 0) p.0 in
    let x = eqb-true s.systems 0 q.1 in
    let y = eqb-true s.ship 0 p.1 in
    λ i. record { name = s.name; depot = sym q.0 i; systems = sym x i; ship = sym y i }

depot_is_exact : IsExact IsField depot_fields
depot_is_exact =
    as_shape_is_exact IsField (and_then name_field (λ _. and_then (word (codes "depot")) (λ _. and_then (word []) (λ _. word []))))
    (λ x. record { name = x.0; depot = true; systems = 0; ship = 0 })
    (λ s. (s.name, (tt, (tt, tt))))
    (λ s. s.depot && (s.systems == 0) && (s.ship == 0))
    (both_are_exact IsField _ _ name_is_exact (λ _ _. both_are_exact IsField _ _ (word_is_exact (codes "depot") (a_field (codes "depot") refl)) (λ _ _. both_are_exact IsField _ _ (word_is_exact [] tt) (λ _ _. word_is_exact [] tt))))
    (λ a f. (refl, refl))
    (λ s h f. depot_values s h)

base_values : (s : SiteRow) → not s.depot ≡ true → (record { name = s.name; depot = false; systems = s.systems; ship = s.ship }) ≡ s
base_values s h = let e = not-true s.depot h in λ i. record { name = s.name; depot = sym e i; systems = s.systems; ship = s.ship }

base_is_exact : IsExact IsField base_fields
base_is_exact =
    as_shape_is_exact IsField (and_then name_field (λ _. and_then (word (codes "base")) (λ _. and_then (one (number 1 10000)) (λ _. days_field))))
    (λ x. record { name = x.0; depot = false; systems = x.1.1.0; ship = x.1.1.1 })
    (λ s. (s.name, (tt, (s.systems, s.ship))))
    (λ s. not s.depot)
    (both_are_exact IsField _ _ name_is_exact (λ _ _. both_are_exact IsField _ _ (word_is_exact (codes "base") (a_field (codes "base") refl)) (λ _ _. both_are_exact IsField _ _ (number_field 1 10000 (omega arith) (omega arith)) (λ _ _. days_are_exact))))
    (λ a f. (refl, refl))
    (λ s h f. base_values s h)

site_case : (c : Bool) → IsExact IsLine (cond c (one (line depot_fields)) (one (line base_fields)))
site_case true = one_is_exact IsLine _ (line_is_exact depot_fields depot_is_exact (λ a. omega arith))
site_case false = one_is_exact IsLine _ (line_is_exact base_fields base_is_exact (λ a. omega arith))

-- the lines of sites are an exact format
pub sites_are_exact : IsExact IsLine sites
sites_are_exact = counted_is_exact (codes "sites") 2 16 site_line (a_field (codes "sites") refl) (omega arith) (omega arith) (λ k. site_case (k == 0))

-- ---- parts

parent_is_exact : IsExact IsField parent_field
parent_is_exact = one_is_exact IsField _ (if_any_is_exact (plain is_name) plain_name_is_exact some_name)

limit_is_exact : IsExact IsField limit_field
limit_is_exact = number_field 0 63 (omega arith) (omega arith)

weight_is_exact : (weighted line : Bool) → IsExact IsField (weight_field weighted line)
weight_is_exact true line = number_if_is_exact line 1 100 (omega arith) (omega arith)
weight_is_exact false line = no_field_is_exact IsField (usual line) (λ n. n == usual line) (eq-eqb (usual line) (usual line) refl) (λ b h. sym (eqb-true b (usual line) h))

part_is_exact : (weighted : Bool) → IsExact IsField (part_fields weighted)
part_is_exact weighted =
    as_shape_is_exact IsField
    (and_then name_field (λ _. and_then parent_field (λ parent. and_then (one (number 1 100000000)) (λ _. and_then (number_if (is_none parent) 1 100) (λ _. and_then limit_field (λ _. and_then limit_field (λ _. weight_field weighted (is_none parent))))))))
    (λ x. record { name = x.0; parent = x.1.0; cost = x.1.1.0; per_system = x.1.1.1.0; max_depot = x.1.1.1.1.0; max_base = x.1.1.1.1.1.0; weight = x.1.1.1.1.1.1 })
    (λ r. (r.name, (r.parent, (r.cost, (r.per_system, (r.max_depot, (r.max_base, r.weight)))))))
    (λ _. true)
    (both_are_exact IsField _ _ name_is_exact (λ _ _. both_are_exact IsField _ _ parent_is_exact (λ parent _. both_are_exact IsField _ _ (number_field 1 100000000 (omega arith) (omega arith)) (λ _ _. both_are_exact IsField _ _ (number_if_is_exact (is_none parent) 1 100 (omega arith) (omega arith)) (λ _ _. both_are_exact IsField _ _ limit_is_exact (λ _ _. both_are_exact IsField _ _ limit_is_exact (λ _ _. weight_is_exact weighted (is_none parent))))))))
    (λ a f. (refl, refl))
    (λ r h f. refl)

-- a line unit of weight 2
abbrev heavy : PartRow
heavy = record { name = 65 ∷ []; parent = None; cost = 1; per_system = 1; max_depot = 0; max_base = 0; weight = 2 }

heavy_fits : (part_fields true).fits heavy ≡ true
heavy_fits = rw a_name refl

part_text_is_exact : (weighted : Bool) → IsExactText IsLine (line (part_fields weighted))
part_text_is_exact weighted = line_is_exact (part_fields weighted) (part_is_exact weighted) (λ a. omega arith)

row_is_exact : (weighted owed : Bool) → IsExactText IsLine (only (may_stand (weighted && owed)) (line (part_fields weighted)))
row_is_exact true true = only_is_exact IsLine (may_stand true) (line (part_fields true)) (part_text_is_exact true) heavy heavy_fits refl
row_is_exact true false = let e = part_text_is_exact true in only_is_exact IsLine (may_stand false) (line (part_fields true)) e e.good e.fits refl
row_is_exact false owed = let e = part_text_is_exact false in only_is_exact IsLine (may_stand false) (line (part_fields false)) e e.good e.fits refl

-- the line of a part is an exact format, whatever weights stand before it
pub part_line_is_exact : (weighted : Bool) (n : ℕ) (before : List PartRow) (k : ℕ) → IsExact IsLine (part_line weighted n before k)
part_line_is_exact weighted n before k = one_is_exact IsLine _ (row_is_exact weighted (is_owed n before k))

-- ---- rates

rate_values : (pair : Pair) (r : RateRow) → ((r.part.0 == pair.part) && (r.site.0 == pair.site)) ≡ true
    → (record { part = record { 0 = pair.part }; site = record { 0 = pair.site }; demand = r.demand; repair_here = r.repair_here; share = r.share; repair_days = r.repair_days }) ≡ r
rate_values pair r h =
    let p = and_parts (r.part.0 == pair.part) (r.site.0 == pair.site) h in
    let x = eqb-true r.part.0 pair.part p.0 in
    let y = eqb-true r.site.0 pair.site p.1 in
    λ i. record { part = record { 0 = sym x i }; site = record { 0 = sym y i }; demand = r.demand; repair_here = r.repair_here; share = r.share; repair_days = r.repair_days }

same_place : (pair : Pair) → ((pair.part == pair.part) && (pair.site == pair.site)) ≡ true
same_place pair = rw (eq-eqb pair.part pair.part refl, eq-eqb pair.site pair.site refl) refl

rate_is_exact : (pair : Pair) → is_name pair.part_name ≡ true → is_name pair.site_name ≡ true → IsExact IsField (rate_fields pair)
rate_is_exact pair m n =
    as_shape_is_exact IsField
    (and_then (word pair.part_name) (λ _. and_then (word pair.site_name) (λ _. and_then (fixed_if (pair.line && not pair.depot) 4 1000000000) (λ _. and_then (chance_if (not pair.depot)) (λ _. and_then (chance_if (not pair.line)) (λ _. days_field))))))
    (λ x. record { part = record { 0 = pair.part }; site = record { 0 = pair.site }; demand = x.1.1.0; repair_here = x.1.1.1.0; share = x.1.1.1.1.0; repair_days = x.1.1.1.1.1 })
    (λ r. (tt, (tt, (r.demand, (r.repair_here, (r.share, r.repair_days))))))
    (λ r. (r.part.0 == pair.part) && (r.site.0 == pair.site))
    (both_are_exact IsField _ _ (named_is_exact pair.part_name m) (λ _ _. both_are_exact IsField _ _ (named_is_exact pair.site_name n) (λ _ _. both_are_exact IsField _ _ (fixed_if_is_exact (pair.line && not pair.depot) 4 1000000000 (omega arith)) (λ _ _. both_are_exact IsField _ _ (fixed_if_is_exact (not pair.depot) 4 10000 (omega arith)) (λ _ _. both_are_exact IsField _ _ (fixed_if_is_exact (not pair.line) 4 10000 (omega arith)) (λ _ _. days_are_exact))))))
    (λ a f. (refl, same_place pair))
    (λ r h f. rate_values pair r h)

-- the line of a pair's rates is an exact format where part and site have names
pub rate_line_is_exact : (pair : Pair) → is_name pair.part_name ≡ true → is_name pair.site_name ≡ true → IsExact IsLine (rate_line pair)
rate_line_is_exact pair m n = one_is_exact IsLine _ (line_is_exact (rate_fields pair) (rate_is_exact pair m n) (λ a. omega arith))
