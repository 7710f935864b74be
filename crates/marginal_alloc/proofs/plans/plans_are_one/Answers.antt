use Rattle.marginal_alloc.proofs.OnePlan.{one_plan}
use Rattle.marginal_alloc.proofs.plans.plans_are_one.Goals as goal

pub returns : goal.returns
returns c = one_plan
