use Rattle.case_lines.proofs.Public.{case_is_exact, case_sites, case_few_parts}
use Rattle.case_lines.specs.Framed.{rows_of}
use Rattle.price_certificate.proofs.reading.certificate_lines.Goals as goal

pub later_lines-requires-clause-few_sites : goal.later_lines-requires-clause-few_sites
later_lines-requires-clause-few_sites c =
    let rows = rows_of c.in_ok-case.case in
    (case_sites rows (case_is_exact.takes c.objective_line.new.lines rows c.case_lines.new.lines c.in_ok-case.ensures).0).1

pub later_lines-requires-clause-few_parts : goal.later_lines-requires-clause-few_parts
later_lines-requires-clause-few_parts c =
    let rows = rows_of c.in_ok-case.case in
    case_few_parts rows (case_is_exact.takes c.objective_line.new.lines rows c.case_lines.new.lines c.in_ok-case.ensures).0
