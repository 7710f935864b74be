use Rattle.exact_model.proofs.Sums.{remainder_most}
use Rattle.exact_model.proofs.weights.remainder_bounded.Goals as goal

pub returns : goal.returns
returns c = remainder_most
