-- How many sites and parts lines can have.
use Rattle.std.proofs.Common.{◌≡◌, ◌≤◌, true, ◌&&◌, List, length, Ok}
use Rattle.std.proofs.lemmas.Bool.{and_parts}
use Rattle.std.proofs.lemmas.Nat.{mul-le}
use Rattle.line_text.specs.Formats.{Token}
use Rattle.spares_input.specs.Cases.{CaseRows, frame_rows, pair_count}
use Rattle.spares_input.specs.declared.rows.SiteRow.{SiteRow}
use Rattle.spares_input.specs.declared.rows.PartRow.{PartRow}
use Rattle.case_lines.specs.Grammar.{sites, parts, rates, case_format}
use Rattle.case_lines.proofs.Exact.{sites_are_exact}
use Rattle.case_lines.proofs.Shape.{parts_are_exact, few_sites, few_parts}

-- a case that can be written has sites, parts and rates that each can
pub case_parts : (c : CaseRows) → case_format.fits c ≡ true → (sites.fits c.sites ≡ true) × ((parts.fits c.parts ≡ true) × ((rates c.sites c.parts).fits c.rates ≡ true))
case_parts c h =
    let s = sites.fits c.sites in
    let p = parts.fits c.parts in
    let r = (rates c.sites c.parts).fits c.rates in
    let a = and_parts s (p && r) (and_parts true (s && (p && r)) h).1 in
    (a.0, and_parts p r a.1)

-- such a case has 2 to 16 sites
pub case_sites : (c : CaseRows) → case_format.fits c ≡ true → (2 ≤ length c.sites) × (length c.sites ≤ 16)
case_sites c h = few_sites c.sites (case_parts c h).0

-- such a case has at most 2,000 parts
pub case_few_parts : (c : CaseRows) → case_format.fits c ≡ true → length c.parts ≤ 2000
case_few_parts c h = few_parts c.parts (case_parts c h).1.0

-- such a case has at most 32,000 pairs
pub few_pairs : (c : CaseRows) → case_format.fits c ≡ true → pair_count (frame_rows c) ≤ 32000
few_pairs c h = mul-le (length c.parts) (length c.sites) 2000 16 (case_few_parts c h) (case_sites c h).1

-- what was read has so many
pub sites_read : (ts rest : List Token) (s : List SiteRow) → sites.read ts ≡ Ok (s, rest) → (2 ≤ length s) × (length s ≤ 16)
sites_read ts rest s h = few_sites s (sites_are_exact.takes ts s rest h).0

-- at most 2,000 parts are read
pub parts_read : (ts rest : List Token) (rows : List PartRow) → parts.read ts ≡ Ok (rows, rest) → length rows ≤ 2000
parts_read ts rest rows h = few_parts rows (parts_are_exact.takes ts rows rest h).0
