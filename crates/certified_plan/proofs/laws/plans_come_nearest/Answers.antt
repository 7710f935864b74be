use Rattle.certified_plan.proofs.Nearest.{nearest}
use Rattle.certified_plan.proofs.laws.plans_come_nearest.Goals as goal

pub returns : goal.returns
returns r = nearest
