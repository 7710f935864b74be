use Rattle.marginal_alloc.proofs.Filled.{fills_hi}
use Rattle.marginal_alloc.proofs.laws.filling_never_raises.Goals as goal

pub returns : goal.returns
returns c = λ curves budget picks end h count f. fills_hi h count f
