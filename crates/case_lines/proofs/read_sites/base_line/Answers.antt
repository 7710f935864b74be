use Rattle.case_lines.specs.Grammar.{base_fields}
use Rattle.case_lines.proofs.read_sites.base_line.Goals as goal

pub returns : goal.returns
returns c = c.row.ensures base_fields c.in_ok-fields.fields c.in_ok-fields.ensures c.base_of-site.ensures
