use Rattle.marginal_alloc.proofs.Kept.{plan_acceptable}
use Rattle.marginal_alloc.proofs.plans.plans_are_acceptable.Goals as goal

pub returns : goal.returns
returns c = plan_acceptable
