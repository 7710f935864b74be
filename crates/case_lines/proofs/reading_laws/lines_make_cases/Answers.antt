use Rattle.case_lines.proofs.Again.{framed_again}
use Rattle.case_lines.proofs.Framed.{is_case}
use Rattle.case_lines.proofs.reading_laws.lines_make_cases.Goals as goal

pub returns-clause-again : goal.returns-clause-again
returns-clause-again c = λ rows v. framed_again rows v

pub returns-clause-rates : goal.returns-clause-rates
returns-clause-rates c = λ rows f e. is_case rows f
