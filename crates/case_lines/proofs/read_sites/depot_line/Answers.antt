use Rattle.case_lines.specs.Grammar.{depot_fields}
use Rattle.case_lines.proofs.read_sites.depot_line.Goals as goal

pub returns : goal.returns
returns c = c.row.ensures depot_fields c.in_ok-fields.fields c.in_ok-fields.ensures c.depot_of-site.ensures
