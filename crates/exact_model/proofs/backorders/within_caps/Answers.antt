use Rattle.exact_model.proofs.Sums.{ebo_within, vbo_within}
use Rattle.exact_model.proofs.backorders.within_caps.Goals as goal

pub returns : goal.returns
returns c = record { backorders = ebo_within; variance = vbo_within }
