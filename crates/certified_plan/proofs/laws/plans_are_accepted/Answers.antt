use Rattle.certified_plan.proofs.Accepted.{accepted}
use Rattle.certified_plan.proofs.laws.plans_are_accepted.Goals as goal

pub returns : goal.returns
returns r = accepted
