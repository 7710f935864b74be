use Rattle.price_certificate.specs.Grammar.{price_fields}
use Rattle.price_certificate.proofs.single_lines.price_line.Goals as goal

pub returns : goal.returns
returns c = c.row.ensures price_fields c.in_ok-fields.fields c.in_ok-fields.ensures c.price_of-price.ensures
