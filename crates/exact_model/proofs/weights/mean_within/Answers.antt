use Rattle.exact_model.proofs.Sums.{mean_most}
use Rattle.exact_model.proofs.weights.mean_within.Goals as goal

pub returns : goal.returns
returns c = mean_most
