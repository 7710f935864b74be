use Rattle.hull.proofs.Shapes.{of_members}
use Rattle.hull.proofs.laws.is_of_members.Goals as goal

pub returns : goal.returns
returns c = of_members
