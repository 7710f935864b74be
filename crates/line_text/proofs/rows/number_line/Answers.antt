use Rattle.line_text.specs.Formats.{one}
use Rattle.line_text.specs.Texts.{number}
use Rattle.line_text.proofs.rows.number_line.Goals as goal

pub returns : goal.returns
returns c = c.row.ensures (one (number 0 c.args.most)) c.in_ok-fields.fields c.in_ok-fields.ensures c.number-number.ensures
