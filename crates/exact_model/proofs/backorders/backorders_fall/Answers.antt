use Rattle.exact_model.proofs.Cleared.{falls}
use Rattle.exact_model.proofs.backorders.backorders_fall.Goals as goal

pub returns : goal.returns
returns c = falls
