use Rattle.exact_model.proofs.Sums.{chances_are_one}
use Rattle.exact_model.proofs.weights.chances_add_up.Goals as goal

pub returns : goal.returns
returns c = chances_are_one
