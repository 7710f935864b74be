use Rattle.marginal_alloc.proofs.Filled.{fills_full}
use Rattle.marginal_alloc.proofs.laws.filling_is_full.Goals as goal

pub returns : goal.returns
returns c = λ curves budget picks end h. fills_full h
