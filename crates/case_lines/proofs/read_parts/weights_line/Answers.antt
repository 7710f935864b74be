use Rattle.case_lines.specs.Grammar.{weights_fields}
use Rattle.case_lines.proofs.read_parts.weights_line.Goals as goal

pub returns : goal.returns
returns c = c.row.ensures weights_fields c.in_ok-fields.fields c.in_ok-fields.ensures c.weights_of-count.ensures
