use Rattle.family_points.proofs.LeastPoints.{box_least}
use Rattle.family_points.proofs.least_separates.Goals as goal

pub returns : goal.returns
returns c = box_least
