-- The text of a plan's certificate is short enough to be read.
use Rattle.std.proofs.Common.{◌==◌, ℕ, ◌+◌, ◌*◌, ◌/◌, ◌%◌, ◌^◌, ◌<◌, ◌≤◌, ◌&&◌, not, inl, inr, Bool, true, List, [], ◌∷◌, length, All, is_none, refl, ap, arith}
use Rattle.std.specs.List.{AllByRecursion}
use Rattle.std.proofs.lemmas.Nat.{mul-le}
use Rattle.std.proofs.lemmas.Bool.{cases_lt}
use Rattle.std.proofs.lemmas.List.{get_or_past}
use Rattle.line_text.specs.Formats.{Token, one}
use Rattle.line_text.specs.Files.{line}
use Rattle.line_text.specs.Texts.{plain, word, number, fixed, no_field, empty_field, word_line, count_fields, number_line, numbers_from, counted, Either, either}
use Rattle.line_text.proofs.Public.{width, Takes, TakesAtMost, with_room, both_take, shape_takes, only_takes, token_takes, line_takes, word_takes, plain_takes, number_takes, fixed_takes, number_line_takes, count_line_takes, chosen_takes, no_field_takes, empty_field_takes, either_takes, if_any_takes, rows_take, counted_take, counted_takes, one_for_each_takes}
use Rattle.list_laws.proofs.Public.{all_are}
use Rattle.spares_input.specs.Names.{is_name}
use Rattle.spares_input.specs.Rows.{IsSiteRow, IsPartRow, no_part, no_site}
use Rattle.spares_input.specs.Frames.{part_at, site_at}
use Rattle.spares_input.specs.Cases.{CaseRows, IsCase, frame_rows, pair_count}
use Rattle.spares_input.specs.Stocks.{AreStocksOf, limit_at}
use Rattle.spares_input.specs.declared.rows.SiteRow.{SiteRow}
use Rattle.spares_input.specs.declared.rows.PartRow.{PartRow}
use Rattle.spares_input.specs.declared.rows.RateRow.{RateRow}
use Rattle.spares_input.proofs.Public.{is_name_fits}
use Rattle.case_lines.specs.Grammar as lines
use Rattle.hull.specs.declared.price.Price.{Price}
use Rattle.price_certificate.specs.declared.certificate.Certificate.{Certificate}
use Rattle.price_certificate.specs.declared.certificate.Objective.{Objective}
use Rattle.price_certificate.specs.declared.certificate.Objective.TheVariants.{Backorders, LogAvailability}
use Rattle.price_certificate.specs.declared.certificate.Node.{Node}
use Rattle.price_certificate.specs.Grammar.{objective_word, objective_fields, aims_at_backorders, price_line, family_count, split_fields, node_parts, node_line, cover, is_empty, certificate_format}
use Rattle.price_certificate.specs.Certificates.{IsWellFormed}
use Rattle.price_certificate.proofs.Public.{objective_at, covers_at, well_formed_fits}
use Rattle.held_certificate.specs.declared.held.HeldCertificate.{HeldCertificate}
use Rattle.held_certificate.specs.Held.{held_line, held, held_format}
use Rattle.held_certificate.proofs.Public.{held_fits, small_at}
use lib.Chars.{codes}

-- ---- fields

name_takes : (t : Token) → TakesAtMost 25 lines.name_field t
name_takes t = plain_takes is_name 24 is_name_fits t

named_takes : (t : Token) → length t ≤ 24 → TakesAtMost 25 (word t) tt
named_takes t h = with_room 25 (omega (arith, h)) (word_takes t)

small_takes : (n : ℕ) → TakesAtMost 3 lines.limit_field n
small_takes n = number_takes 0 63 2 n refl

amount_takes : (has : Bool) (n : ℕ) → TakesAtMost 4 (lines.number_if has 1 100) n
amount_takes has n =
    chosen_takes 4 has (one (number 1 100)) (empty_field 0 lines.is_zero) n (number_takes 1 100 3 n refl) (empty_field_takes 3 0 lines.is_zero n)

demand_takes : (has : Bool) (n : ℕ) → TakesAtMost 16 (lines.fixed_if has 4 1000000000) n
demand_takes has n =
    chosen_takes 16 has (one (fixed 4 0 1000000000)) (empty_field 0 lines.is_zero) n (fixed_takes 4 0 1000000000 10 n refl) (empty_field_takes 15 0 lines.is_zero n)

chance_takes : (has : Bool) (n : ℕ) → TakesAtMost 11 (lines.chance_if has) n
chance_takes has n =
    chosen_takes 11 has (one (fixed 4 0 10000)) (empty_field 0 lines.is_zero) n (fixed_takes 4 0 10000 5 n refl) (empty_field_takes 10 0 lines.is_zero n)

days_take : (n : ℕ) → TakesAtMost 10 lines.days_field n
days_take n = fixed_takes 2 0 999999 6 n refl

-- ---- sites

depot_takes : (s : SiteRow) → TakesAtMost 48 (one (line lines.depot_fields)) s
depot_takes s =
    let all = both_take (name_takes s.name) (both_take (word_takes (codes "depot")) (both_take (word_takes []) (word_takes []))) in
    with_room 48 (omega arith) (line_takes (shape_takes (s.depot && (s.systems == 0) && (s.ship == 0)) all))

base_takes : (s : SiteRow) → TakesAtMost 48 (one (line lines.base_fields)) s
base_takes s =
    line_takes (shape_takes (not s.depot)
    (both_take (name_takes s.name) (both_take (word_takes (codes "base")) (both_take (number_takes 1 10000 5 s.systems refl) (days_take s.ship)))))

site_takes : (i : ℕ) (s : SiteRow) → TakesAtMost 48 (lines.site_line i) s
site_takes i s = chosen_takes 48 (i == 0) (one (line lines.depot_fields)) (one (line lines.base_fields)) s (depot_takes s) (base_takes s)

-- ---- parts

weight_takes : (weighted line : Bool) (n : ℕ) → TakesAtMost 4 (lines.weight_field weighted line) n
weight_takes weighted line n =
    chosen_takes 4 weighted (lines.number_if line 1 100) (no_field (lines.usual line) (λ k. k == lines.usual line)) n (amount_takes line n) (no_field_takes 4 (lines.usual line) (λ k. k == lines.usual line) n)

part_takes : (weighted : Bool) (r : PartRow) → TakesAtMost 76 (one (line (lines.part_fields weighted))) r
part_takes weighted r =
    line_takes (both_take (name_takes r.name) (both_take (if_any_takes (plain is_name) 24 name_takes r.parent) (both_take (number_takes 1 100000000 9 r.cost refl)
    (both_take (amount_takes (is_none r.parent) r.per_system) (both_take (small_takes r.max_depot) (both_take (small_takes r.max_base) (weight_takes weighted (is_none r.parent) r.weight)))))))

header_takes : (h : Either ℕ ℕ) → TakesAtMost 21 lines.parts_line h
header_takes =
    either_takes (line (count_fields (codes "parts") 0 2000)) (line lines.weights_fields) 21
    (λ n. with_room 21 (omega arith) (count_line_takes (codes "parts") 0 2000 4 n refl))
    (λ n. line_takes (both_take (word_takes (codes "parts")) (both_take (number_takes 1 2000 4 n refl) (word_takes (codes "weights")))))

parts_take : (ps : List PartRow) → length ps ≤ 2000 → TakesAtMost 152021 lines.parts ps
parts_take ps few =
    let h = lines.header_of ps in
    let row = lines.part_line (lines.weights_in h) (lines.count_in h) in
    let each = all_are (λ r. (before : List PartRow) (k : ℕ) → TakesAtMost 76 (row before k) r) ps
    (λ r before k. only_takes (lines.may_stand (lines.weights_in h && lines.is_owed (lines.count_in h) before k) r) (part_takes (lines.weights_in h) r)) in
    both_take (header_takes h) (rows_take row 76 2000 [] (numbers_from 0 (lines.count_in h)) ps each few)

-- ---- rates

rate_takes : (pair : lines.Pair) (r : RateRow) → length pair.part_name ≤ 24 → length pair.site_name ≤ 24 → TakesAtMost 100 (lines.rate_line pair) r
rate_takes pair r part site =
    line_takes (shape_takes ((r.part.0 == pair.part) && (r.site.0 == pair.site))
    (both_take (named_takes pair.part_name part) (both_take (named_takes pair.site_name site) (both_take (demand_takes (pair.line && not pair.depot) r.demand)
    (both_take (chance_takes (not pair.depot) r.repair_here) (both_take (chance_takes (not pair.line) r.share) (days_take r.repair_days)))))))

part_name : (ps : List PartRow) (i : ℕ) → All IsPartRow ps → length (part_at ps i).name ≤ 24
part_name ps i all = elim (cases_lt i (length ps)) [
  | inl b ↦ is_name_fits (part_at ps i).name (all i no_part b).name
  | inr b ↦ (let e = ap (λ (r : PartRow). length r.name) (get_or_past ps i no_part b) in omega (arith, e))
]

site_name : (ss : List SiteRow) (i : ℕ) → All IsSiteRow ss → length (site_at ss i).name ≤ 24
site_name ss i all = elim (cases_lt i (length ss)) [
  | inl b ↦ is_name_fits (site_at ss i).name (all i no_site b).name
  | inr b ↦ (let e = ap (λ (r : SiteRow). length r.name) (get_or_past ss i no_site b) in omega (arith, e))
]

pairs_most : (c : CaseRows) → IsCase c → pair_count (frame_rows c) ≤ 32000
pairs_most c valid = mul-le (length c.parts) (length c.sites) 2000 16 valid.frame.most_parts valid.frame.most_sites

case_takes : (c : CaseRows) → IsCase c → TakesAtMost 3352814 lines.case_format c
case_takes c valid =
    let frame = valid.frame in
    let few : length c.rates ≤ 32000 = (let n = valid.rate_count in omega (arith, n, pairs_most c valid)) in
    both_take (counted_takes (codes "sites") 2 16 lines.site_line 48 16 2 refl site_takes c.sites frame.most_sites)
    (both_take (parts_take c.parts frame.most_parts)
    (one_for_each_takes (codes "rates") (numbers_from 0 (length c.parts * length c.sites)) (λ i. lines.rate_line (lines.pair_at c.sites c.parts i)) 100 32000 5 refl
    (λ i r. rate_takes (lines.pair_at c.sites c.parts i) r (part_name c.parts (i / length c.sites) frame.part_rows) (site_name c.sites (i % length c.sites) frame.site_rows)) c.rates few))

-- ---- certificates

aim_takes : (o : Objective) → TakesAtMost 17 (one objective_word) o
aim_takes Backorders = token_takes 16 true (codes "backorders") (λ _. omega arith)
aim_takes LogAvailability = token_takes 16 true (codes "log-availability") (λ _. omega arith)

objective_takes : (b : Bool) (o : Objective) → TakesAtMost 29 (objective_at b) o
objective_takes b o =
    chosen_takes 29 b (one (line objective_fields)) (no_field Backorders aims_at_backorders) o
    (line_takes (both_take (word_takes (codes "objective")) (aim_takes o))) (no_field_takes 29 Backorders aims_at_backorders o)

price_takes : (price : Price) → TakesAtMost 46 price_line price
price_takes price =
    line_takes (both_take (word_takes (codes "price")) (both_take (number_takes 0 (2 ^ 74) 23 price.p refl) (number_takes 1 (10 ^ 12) 13 price.q refl)))

node_takes : (n : Node) → TakesAtMost 15 node_line n
node_takes n =
    either_takes (line split_fields) (either (line (word (codes "cost"))) (line (word (codes "whole")))) 15
    (λ x. line_takes (both_take (word_takes (codes "split")) (both_take (number_takes 0 143 3 x.0 refl) (number_takes 1 63 2 x.1 refl))))
    (either_takes (line (word (codes "cost"))) (line (word (codes "whole"))) 15
    (λ _. with_room 15 (omega arith) (line_takes (word_takes (codes "cost")))) (λ _. with_room 15 (omega arith) (line_takes (word_takes (codes "whole"))))) (node_parts n)

-- a cover of few nodes
abbrev pub IsShort : List Node → Type 0
IsShort nodes = length nodes ≤ 289

covers_take : (b : Bool) (n : ℕ) (covers : List (List Node)) → length covers ≤ 2000 → AllByRecursion IsShort covers → TakesAtMost 8694014 (covers_at b n) covers
covers_take b n covers few short =
    chosen_takes 8694014 b (counted (codes "covers") n n (λ _. cover)) (no_field [] is_empty) covers (counted_take (codes "covers") n n (λ _. cover) 4347 2000 4 refl covers few (each covers short))
    (no_field_takes 8694014 [] is_empty covers)
  where
    each : (covers : List (List Node)) → AllByRecursion IsShort covers → AllByRecursion (λ nodes. (i : ℕ) → TakesAtMost 4347 cover nodes) covers
    each [] short = tt
    each (nodes ∷ covers) short =
        (λ _. counted_takes (codes "cover") 1 100000 (λ _. node_line) 15 289 3 refl (λ _ n. node_takes n) nodes short.0, each covers short.1)

end_takes : TakesAtMost 6 (word_line (codes "end")) tt
end_takes = line_takes (word_takes (codes "end"))

-- the parts of a certificate have few numbers
pub record HasFew (cert : Certificate) : Type 0 where
  pub formed : IsWellFormed cert
  pub floors : length cert.floors ≤ 2000
  pub covers : length cert.covers ≤ 2000
  pub short : AllByRecursion IsShort cert.covers

-- a certificate of at most 2,000 families takes at most 12,400,000 bytes
pub certificate_most : (cert : Certificate) → HasFew cert → width ((certificate_format 1).print cert) ≤ 12400000
certificate_most cert h =
    let n = family_count cert.case.parts in
    let pairs = pair_count (frame_rows cert.case) in
    let few : length cert.stocks.list ≤ 32000 = (let e = h.formed.stocks.pairs in omega (arith, e, pairs_most cert.case h.formed.case)) in
    let all =
    both_take (count_line_takes (codes "spares-certificate") 1 2 1 cert.format refl) (both_take (objective_takes (cert.format == 2) cert.objective)
    (both_take (case_takes cert.case h.formed.case) (both_take (count_line_takes (codes "budget") 0 (10 ^ 15) 16 cert.budget refl) (both_take (price_takes cert.price)
    (both_take (counted_takes (codes "floors") n n (λ _. number_line (2 ^ 115)) 38 2000 4 refl (λ _ x. number_line_takes (2 ^ 115) (2 ^ 115) 35 x refl (omega arith)) cert.floors h.floors)
    (both_take (covers_take (cert.format == 2) n cert.covers h.covers h.short)
    (both_take (shape_takes (cert.stocks.sites == length cert.case.sites)
    (counted_takes (codes "stocks") pairs pairs (λ _. number_line 63) 5 32000 5 refl (λ _ x. number_line_takes 63 63 2 x refl (omega arith)) cert.stocks.list few))
    (both_take (count_line_takes (codes "upper") 0 (2 ^ 85) 26 cert.upper refl) (both_take (count_line_takes (codes "bound") 0 (2 ^ 85) 26 cert.bound refl) end_takes))))))))) in
    (with_room 12400000 (omega arith) all).bytes (well_formed_fits cert h.formed)

-- with what is held it takes at most 12,600,000 bytes
pub held_most : (h : HeldCertificate) → HasFew h.certificate → AreStocksOf h.certificate.case h.held → width (held_format.print h) ≤ 12600000
held_most h few stocks =
    let c = h.certificate.case in
    let frame = few.formed.case.frame in
    let pairs = pair_count (frame_rows c) in
    let most : length h.held.list ≤ 32000 = (let e = stocks.is_for.pairs in omega (arith, e, pairs_most c few.formed.case)) in
    let certificate : Takes 12400000 true ((certificate_format 2).print h.certificate) = record { bytes = λ _. certificate_most h.certificate few } in
    let own : Takes 160013 ((held c).fits h.held) ((held c).print h.held) =
    shape_takes (h.held.sites == length c.sites) (counted_takes (codes "held") pairs pairs (held_line c) 5 32000 5 refl
    (λ i x. number_line_takes (limit_at c.parts (i / length c.sites) (i % length c.sites)) 63 2 x refl (small_at c.parts frame.part_rows (i / length c.sites) (i % length c.sites))) h.held.list most) in
    let sure : Takes 160013 true ((held c).print h.held) = record { bytes = λ _. own.bytes (held_fits c h.held frame.fewest_sites stocks) } in
    let all = both_take (both_take (count_line_takes (codes "spares-held") 1 1 1 1 refl) certificate) (both_take sure end_takes) in
    (with_room 12600000 (omega arith) all).bytes refl
