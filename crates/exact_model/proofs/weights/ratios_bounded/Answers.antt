use Rattle.exact_model.proofs.Later.{ratios_bounded}
use Rattle.exact_model.proofs.weights.ratios_bounded.Goals as goal

pub returns : goal.returns
returns c = ratios_bounded
