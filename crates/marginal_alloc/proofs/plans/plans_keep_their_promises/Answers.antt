use Rattle.marginal_alloc.proofs.Kept.{plan_kept}
use Rattle.marginal_alloc.proofs.plans.plans_keep_their_promises.Goals as goal

pub returns : goal.returns
returns c = λ families budget chosen floors numbers i h. plan_kept families budget chosen floors numbers h i
