use Rattle.hull.proofs.Chains.{chain_is_curve}
use Rattle.hull.proofs.laws.chain_is_own_curve.Goals as goal

pub returns : goal.returns
returns c = chain_is_curve
