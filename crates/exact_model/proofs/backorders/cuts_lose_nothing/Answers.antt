use Rattle.exact_model.proofs.Cleared.{covered}
use Rattle.exact_model.proofs.Sums.{chances_within_one, vbo_cut_once}
use Rattle.exact_model.proofs.backorders.cuts_lose_nothing.Goals as goal

pub returns : goal.returns
returns c = record { backorders = covered; tail = chances_within_one; variance = vbo_cut_once }
