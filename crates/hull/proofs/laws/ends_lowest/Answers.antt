use Rattle.hull.proofs.Shapes.{ends_lowest}
use Rattle.hull.proofs.laws.ends_lowest.Goals as goal

pub returns : goal.returns
returns c = ends_lowest
