use Rattle.std.proofs.lemmas.Bool.{false≢true}
use Rattle.line_text.proofs.Cursors.{some_left}
use Rattle.line_text.proofs.lines.Fields.is_empty.Goals as goal

pub returns-in-Some : goal.returns-in-Some
returns-in-Some c = (λ t. absurd (false≢true t), λ e. absurd (some_left c.self.inside.rest c.in-Some._bytes c.args.self.now c.in-Some.is c.self.view_is e))
