use Rattle.line_text.proofs.Public.{answer_again, answer_takes, answer_refuses}
use Rattle.case_lines.specs.Grammar.{case_format}
use Rattle.case_lines.proofs.Shape.{case_is_exact}
use Rattle.case_lines.proofs.Valid.{case_fits}
use Rattle.case_lines.proofs.exactness.case_lines_are_exact.Goals as goal

pub returns-clause-exact : goal.returns-clause-exact
returns-clause-exact c = case_is_exact

pub returns-clause-valid : goal.returns-clause-valid
returns-clause-valid c = λ rows h. case_fits rows h

pub returns-clause-again : goal.returns-clause-again
returns-clause-again c = λ rows h. answer_again case_format case_is_exact rows h

pub returns-clause-its_text : goal.returns-clause-its_text
returns-clause-its_text c = λ bytes rows h. answer_takes case_format case_is_exact bytes rows h

pub returns-clause-first_bad : goal.returns-clause-first_bad
returns-clause-first_bad c = λ bytes n h. answer_refuses case_format case_is_exact bytes n h
