use Rattle.hull.proofs.Shapes.{begins_cheapest}
use Rattle.hull.proofs.laws.begins_cheapest.Goals as goal

pub returns : goal.returns
returns c = begins_cheapest
