use Rattle.exact_model.proofs.Fractions.{quotient}
use Rattle.exact_model.proofs.arithmetic.quotients_divide.Goals as goal

pub returns : goal.returns
returns c = quotient
