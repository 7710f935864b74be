use Rattle.marginal_alloc.proofs.Filled.{fills_vertices}
use Rattle.marginal_alloc.proofs.laws.filling_picks_vertices.Goals as goal

pub returns : goal.returns
returns c = λ curves budget picks end h is. fills_vertices h is
