-- How many families a case can have.
use Rattle.std.proofs.Common.{◌≡◌, ◌≤◌, true, arith}
use Rattle.std.proofs.lemmas.List.Sums.{count_by-le-length}
use Rattle.spares_input.specs.Rows.{is_line}
use Rattle.spares_input.specs.Cases.{CaseRows}
use Rattle.case_lines.specs.Grammar.{case_format}
use Rattle.case_lines.proofs.Public.{case_few_parts}
use Rattle.price_certificate.specs.Grammar.{family_count}

-- a case that can be written has at most 2,000 line units
pub few_families : (c : CaseRows) → case_format.fits c ≡ true → family_count c.parts ≤ 2000
few_families c h = omega (arith, case_few_parts c h, count_by-le-length is_line c.parts)
