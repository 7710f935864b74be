use Rattle.hull.proofs.Shapes.{one_curve}
use Rattle.hull.proofs.laws.has_one_curve.Goals as goal

pub returns : goal.returns
returns c = one_curve
