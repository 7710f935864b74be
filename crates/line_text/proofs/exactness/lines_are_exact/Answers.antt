use Rattle.line_text.proofs.LineLaws.{line_is_exact}
use Rattle.line_text.proofs.FieldLaws.{word_line_is_exact, number_line_is_exact, count_line_is_exact, counted_is_exact, one_for_each_is_exact}
use Rattle.line_text.proofs.exactness.lines_are_exact.Goals as goal

pub returns-clause-line : goal.returns-clause-line
returns-clause-line g c = λ fields e some. line_is_exact fields e some

pub returns-clause-word_line : goal.returns-clause-word_line
returns-clause-word_line g c = λ w h. word_line_is_exact w h

pub returns-clause-count_line : goal.returns-clause-count_line
returns-clause-count_line g c = λ w least most h l m. count_line_is_exact w least most h l m

pub returns-clause-counted : goal.returns-clause-counted
returns-clause-counted g c = λ w least most format h l m e. counted_is_exact w least most format h l m e

pub returns-clause-one_for_each : goal.returns-clause-one_for_each
returns-clause-one_for_each g c = λ w keys format h m e. one_for_each_is_exact w keys format h m e

pub returns-clause-number_line : goal.returns-clause-number_line
returns-clause-number_line g c = λ most m. number_line_is_exact most m
