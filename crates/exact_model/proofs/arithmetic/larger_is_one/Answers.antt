use Rattle.exact_model.proofs.Fractions.{larger_is}
use Rattle.exact_model.proofs.arithmetic.larger_is_one.Goals as goal

pub returns : goal.returns
returns c = larger_is
