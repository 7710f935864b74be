use Rattle.exact_model.proofs.Relative.{weight_ratio}
use Rattle.exact_model.proofs.weights.weights_by_ratios.Goals as goal

pub returns : goal.returns
returns c = weight_ratio
