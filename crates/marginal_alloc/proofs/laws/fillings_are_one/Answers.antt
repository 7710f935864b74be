use Rattle.marginal_alloc.proofs.Ends.{fills_same}
use Rattle.marginal_alloc.proofs.laws.fillings_are_one.Goals as goal

pub returns : goal.returns
returns c = fills_same
