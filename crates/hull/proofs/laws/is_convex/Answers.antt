use Rattle.hull.proofs.Shapes.{convex}
use Rattle.hull.proofs.laws.is_convex.Goals as goal

pub returns : goal.returns
returns c = convex
