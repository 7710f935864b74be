use Rattle.spares_input.proofs.Standing.{no_frame_fault, own_frame, own_case}
use Rattle.spares_input.proofs.laws.cases_break_no_rule.Goals as goal

pub returns-clause-no_fault : goal.returns-clause-no_fault
returns-clause-no_fault c = λ f v. no_frame_fault f v

pub returns-clause-frame : goal.returns-clause-frame
returns-clause-frame c = λ f v. own_frame f v

pub returns-clause-case : goal.returns-clause-case
returns-clause-case c = λ rows v. own_case rows v
