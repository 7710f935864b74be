use Rattle.family_points.proofs.Separate.{separated_is}
use Rattle.family_points.proofs.points_separate.Goals as goal

pub returns : goal.returns
returns c = separated_is
