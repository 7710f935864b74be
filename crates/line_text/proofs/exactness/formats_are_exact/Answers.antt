use Rattle.std.proofs.Common.{[]}
use Rattle.line_text.specs.Exact.{IsToken}
use Rattle.line_text.proofs.Laws.{one_is_exact, nothing_is_exact, both_are_exact, as_shape_is_exact, each_after_is_exact}
use Rattle.line_text.proofs.FieldLaws.{whatever_before}
use Rattle.line_text.proofs.exactness.formats_are_exact.Goals as goal

pub returns-clause-one : goal.returns-clause-one
returns-clause-one g c = λ level text e. one_is_exact (IsToken level) text e

pub returns-clause-nothing : goal.returns-clause-nothing
returns-clause-nothing g c = λ level x only. nothing_is_exact (IsToken level) x only

pub returns-clause-and_then : goal.returns-clause-and_then
returns-clause-and_then g c = λ level first next e f. both_are_exact (IsToken level) first next e f

pub returns-clause-as_shape : goal.returns-clause-as_shape
returns-clause-as_shape g c = λ level format to from has e there back. as_shape_is_exact (IsToken level) format to from has e there back

pub returns-clause-each_after : goal.returns-clause-each_after
returns-clause-each_after g c = λ level before keys format e. each_after_is_exact (IsToken level) before keys format e

pub returns-clause-each : goal.returns-clause-each
returns-clause-each g c = λ level keys format e. each_after_is_exact (IsToken level) [] keys (λ _ k. format k) (whatever_before (IsToken level) format keys e)
