use Rattle.line_text.specs.Texts.{count_fields}
use Rattle.line_text.proofs.rows.count_line.Goals as goal

pub returns : goal.returns
returns c = c.row.ensures (count_fields c.args.name.now c.args.least c.args.most) c.in_ok-fields.fields c.in_ok-fields.ensures c.count_of-count.ensures
