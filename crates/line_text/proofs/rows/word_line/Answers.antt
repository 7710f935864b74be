use Rattle.line_text.specs.Texts.{word}
use Rattle.line_text.proofs.rows.word_line.Goals as goal

pub returns : goal.returns
returns c = c.row.ensures (word c.args.name.now) c.in_ok-fields.fields c.in_ok-fields.ensures c.word-found.ensures
