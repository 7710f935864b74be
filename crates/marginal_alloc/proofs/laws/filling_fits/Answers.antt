use Rattle.marginal_alloc.proofs.Filled.{fills_cost}
use Rattle.marginal_alloc.proofs.laws.filling_fits.Goals as goal

pub returns : goal.returns
returns c = λ curves budget picks end h fits. fills_cost h fits
