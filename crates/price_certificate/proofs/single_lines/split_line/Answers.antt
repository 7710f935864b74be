use Rattle.price_certificate.specs.Grammar.{split_fields}
use Rattle.price_certificate.proofs.single_lines.split_line.Goals as goal

pub returns : goal.returns
returns c = c.row.ensures split_fields c.in_ok-fields.fields c.in_ok-fields.ensures c.split_of-split.ensures
