use Rattle.case_plan.proofs.Nothing.{from_nothing, to_nothing}
use Rattle.case_plan.proofs.truth.zeros_hold_nothing.Goals as goal

pub returns : goal.returns
returns r = λ ends c held budget p nothing. (from_nothing c held nothing ends budget p, to_nothing c held nothing ends budget p)
