use Rattle.exact_model.proofs.Spread.{falls_uncut, spread_falls}
use Rattle.exact_model.proofs.backorders.variance_falls.Goals as goal

pub returns : goal.returns
returns c = record { uncut = falls_uncut; cut = spread_falls }
