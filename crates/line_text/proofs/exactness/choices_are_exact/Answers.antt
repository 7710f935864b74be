use Rattle.line_text.specs.Exact.{IsToken}
use Rattle.line_text.proofs.MoreFields.{either_is_exact, only_is_exact}
use Rattle.line_text.proofs.exactness.choices_are_exact.Goals as goal

pub returns-clause-either : goal.returns-clause-either
returns-clause-either g c = λ level first second e f apart. either_is_exact (IsToken level) first second e f apart

pub returns-clause-only : goal.returns-clause-only
returns-clause-only g c = λ level test text good e f h. only_is_exact (IsToken level) test text e good f h
