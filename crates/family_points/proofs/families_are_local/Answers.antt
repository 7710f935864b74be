use Rattle.family_points.proofs.Local.{local}
use Rattle.family_points.proofs.families_are_local.Goals as goal

pub returns : goal.returns
returns c = local
