-- The lines of a case: its sites, its parts, and the rates of each pair.
use Rattle.std.specs.Prelude.{ℕ, suc, ◌*◌, ◌/◌, ◌%◌, Bool, true, false, not, ◌&&◌, ◌==◌, nat_le, List, [], length, Option, is_none, if◌then◌else◌}
use Rattle.std.specs.List.{list_any}
use Rattle.line_text.specs.Formats.{Format, one, and_then, as_shape, each_after}
use Rattle.line_text.specs.Files.{line}
use Rattle.line_text.specs.Texts.{number, fixed, plain, word, no_field, empty_field, count_fields, counted, one_for_each, numbers_from, Either, Left, Right, either, if_any, only}
use Rattle.spares_input.specs.Limits.{most_sites, most_parts, most_stock, most_part_cost, most_days}
use Rattle.spares_input.specs.Names.{is_name}
use Rattle.spares_input.specs.Frames.{site_at, part_at}
use Rattle.spares_input.specs.Cases.{CaseRows}
use Rattle.spares_input.specs.declared.rows.SiteRow.{SiteRow}
use Rattle.spares_input.specs.declared.rows.PartRow.{PartRow}
use Rattle.spares_input.specs.declared.rows.RateRow.{RateRow}
use lib.Chars.{codes}

-- ---- fields

-- the number is 0, the value of an empty field
abbrev pub is_zero : ℕ → Bool
is_zero n = n == 0

-- a name
abbrev pub name_field : Format (List ℕ)
name_field = one (plain is_name)

-- a whole number, or an empty field for 0
abbrev pub number_if : Bool → ℕ → ℕ → Format ℕ
number_if has least most = if has then one (number least most) else empty_field 0 is_zero

-- the same for units of the last of these places
abbrev pub fixed_if : Bool → ℕ → ℕ → Format ℕ
fixed_if has places most = if has then one (fixed places 0 most) else empty_field 0 is_zero

-- a probability or a share, with 4 decimals
abbrev pub chance_if : Bool → Format ℕ
chance_if has = fixed_if has 4 10000

-- days, with 2 decimals
abbrev pub days_field : Format ℕ
days_field = one (fixed 2 0 most_days)

-- ---- sites: the first is the depot, and the others are bases

-- NAME,depot,,
abbrev pub depot_fields : Format SiteRow
depot_fields =
    as_shape (and_then name_field (λ _. and_then (word (codes "depot")) (λ _. and_then (word []) (λ _. word []))))
    (λ x. record { name = x.0; depot = true; systems = 0; ship = 0 })
    (λ s. (s.name, (tt, (tt, tt))))
    (λ s. s.depot && (s.systems == 0) && (s.ship == 0))

-- NAME,base,SYSTEMS,DAYS
abbrev pub base_fields : Format SiteRow
base_fields =
    as_shape
    (and_then name_field (λ _. and_then (word (codes "base")) (λ _. and_then (one (number 1 10000)) (λ _. days_field))))
    (λ x. record { name = x.0; depot = false; systems = x.1.1.0; ship = x.1.1.1 })
    (λ s. (s.name, (tt, (s.systems, s.ship))))
    (λ s. not s.depot)

-- the line of site k: the depot for k = 0, else a base
abbrev pub site_line : ℕ → Format SiteRow
site_line k = if k == 0 then one (line depot_fields) else one (line base_fields)

-- the number of sites, and then a line for each
abbrev pub sites : Format (List SiteRow)
sites = counted (codes "sites") 2 most_sites site_line

-- ---- parts: one without a parent is a line unit

-- nothing, or the name of a parent
abbrev pub parent_field : Format (Option (List ℕ))
parent_field = one (if_any (plain is_name))

-- the largest stock of a part at a site
abbrev pub limit_field : Format ℕ
limit_field = one (number 0 most_stock)

-- the weight of a part if no weights are written
abbrev pub usual : Bool → ℕ
usual line = if line then 1 else 0

-- the weight of a part if weights are written, otherwise no field and the usual weight
abbrev pub weight_field : Bool → Bool → Format ℕ
weight_field weighted line = if weighted then number_if line 1 100 else no_field (usual line) (λ n. n == usual line)

-- NAME,PARENT,COST,PER_SYSTEM,MAX_DEPOT,MAX_BASE, and ,WEIGHT if weights are written
abbrev pub part_fields : Bool → Format PartRow
part_fields weighted =
    as_shape
    (and_then name_field (λ _. and_then parent_field
    (λ parent. and_then (one (number 1 most_part_cost))
    (λ _. and_then (number_if (is_none parent) 1 100)
    (λ _. and_then limit_field (λ _. and_then limit_field (λ _. weight_field weighted (is_none parent))))))))
    (λ x. record {
      name = x.0;
      parent = x.1.0;
      cost = x.1.1.0;
      per_system = x.1.1.1.0;
      max_depot = x.1.1.1.1.0;
      max_base = x.1.1.1.1.1.0;
      weight = x.1.1.1.1.1.1;
    })
    (λ r. (r.name, (r.parent, (r.cost, (r.per_system, (r.max_depot, (r.max_base, r.weight)))))))
    (λ _. true)

-- a weight other than 1, and other than the 0 of a shop unit
abbrev pub weighs_more : PartRow → Bool
weighs_more r = nat_le 2 r.weight

-- one of the parts has a weight other than the usual
abbrev pub are_weighted : List PartRow → Bool
are_weighted rows = list_any weighs_more rows

-- row k is the last of n, and all weights before it are usual, so its weight must be another
abbrev pub is_owed : ℕ → List PartRow → ℕ → Bool
is_owed n before k = (suc k == n) && not (are_weighted before)

-- the row has another weight if it must
abbrev pub may_stand : Bool → PartRow → Bool
may_stand owed r = if owed then weighs_more r else true

-- the line of row k of n parts; the last one must have another weight if no earlier one has and weights are written
abbrev pub part_line : Bool → ℕ → List PartRow → ℕ → Format PartRow
part_line weighted n before k = one (only (may_stand (weighted && is_owed n before k)) (line (part_fields weighted)))

-- the lines of n parts
abbrev pub part_lines : Bool → ℕ → Format (List PartRow)
part_lines weighted n = each_after [] (numbers_from 0 n) (part_line weighted n)

-- parts,N,weights
abbrev pub weights_fields : Format ℕ
weights_fields =
    as_shape
    (and_then (word (codes "parts")) (λ _. and_then (one (number 1 most_parts)) (λ _. word (codes "weights"))))
    (λ x. x.1.0)
    (λ n. (tt, (n, tt)))
    (λ _. true)

-- parts,N or parts,N,weights
abbrev pub parts_line : Format (Either ℕ ℕ)
parts_line = one (either (line (count_fields (codes "parts") 0 most_parts)) (line weights_fields))

-- the number of parts by the first line
abbrev pub count_in : Either ℕ ℕ → ℕ
count_in (Left n) = n
count_in (Right n) = n

-- whether weights are written by the first line
abbrev pub weights_in : Either ℕ ℕ → Bool
weights_in (Left n) = false
weights_in (Right n) = true

-- the first line of n parts, with weights or without
abbrev pub header : Bool → ℕ → Either ℕ ℕ
header weighted n = if weighted then Right n else Left n

-- weights are written exactly if some weight isn't 1
abbrev pub header_of : List PartRow → Either ℕ ℕ
header_of rows = header (are_weighted rows) (length rows)

-- the first line of the parts, and then a line for each
abbrev pub parts : Format (List PartRow)
parts = as_shape (and_then parts_line (λ h. part_lines (weights_in h) (count_in h))) (λ x. x.1)
    (λ rows. (header_of rows, rows)) (λ _. true)

-- ---- rates, by part and then by site

-- a part at a site
pub record Pair : Type 0 where
  pub part : ℕ
  pub site : ℕ
  pub part_name : List ℕ
  pub site_name : List ℕ
  pub line : Bool
  pub depot : Bool

-- part p at site k, with the names and kinds of both
abbrev pub pair_of : ℕ → PartRow → ℕ → SiteRow → Pair
pair_of p part k site = record {
  part = p;
  site = k;
  part_name = part.name;
  site_name = site.name;
  line = is_none part.parent;
  depot = site.depot;
}

-- the pair at place i
abbrev pub pair_at : List SiteRow → List PartRow → ℕ → Pair
pair_at ss ps i = pair_of (i / length ss) (part_at ps (i / length ss)) (i % length ss) (site_at ss (i % length ss))

-- PART,SITE,DEMAND,REPAIR_HERE,SHARE,DAYS; a field that the pair lacks is empty
abbrev pub rate_fields : Pair → Format RateRow
rate_fields pair =
    as_shape
    (and_then (word pair.part_name) (λ _. and_then (word pair.site_name)
    (λ _. and_then (fixed_if (pair.line && not pair.depot) 4 1000000000)
    (λ _. and_then (chance_if (not pair.depot)) (λ _. and_then (chance_if (not pair.line)) (λ _. days_field))))))
    (λ x. record {
      part = record { 0 = pair.part };
      site = record { 0 = pair.site };
      demand = x.1.1.0;
      repair_here = x.1.1.1.0;
      share = x.1.1.1.1.0;
      repair_days = x.1.1.1.1.1;
    })
    (λ r. (tt, (tt, (r.demand, (r.repair_here, (r.share, r.repair_days))))))
    (λ r. (r.part.0 == pair.part) && (r.site.0 == pair.site))

-- the line of a pair's rates
abbrev pub rate_line : Pair → Format RateRow
rate_line pair = one (line (rate_fields pair))

-- the number of pairs, and then a line for each
abbrev pub rates : List SiteRow → List PartRow → Format (List RateRow)
rates ss ps = one_for_each (codes "rates") (numbers_from 0 (length ps * length ss)) (λ i. rate_line (pair_at ss ps i))

-- ---- a case

-- sites, parts, and the rates of each pair
abbrev pub case_format : Format CaseRows
case_format =
    as_shape (and_then sites (λ ss. and_then parts (λ ps. rates ss ps)))
    (λ x. record { sites = x.0; parts = x.1.0; rates = x.1.1 })
    (λ c. (c.sites, (c.parts, c.rates)))
    (λ _. true)
