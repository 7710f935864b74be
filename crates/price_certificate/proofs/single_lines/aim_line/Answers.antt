use Rattle.price_certificate.specs.Grammar.{objective_fields}
use Rattle.price_certificate.proofs.single_lines.aim_line.Goals as goal

pub returns : goal.returns
returns c = c.row.ensures objective_fields c.in_ok-fields.fields c.in_ok-fields.ensures c.aim_of-objective.ensures
