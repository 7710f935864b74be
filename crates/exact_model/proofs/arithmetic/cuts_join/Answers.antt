use Rattle.exact_model.proofs.Fractions.{cuts_join}
use Rattle.exact_model.proofs.arithmetic.cuts_join.Goals as goal

pub returns : goal.returns
returns c = cuts_join
