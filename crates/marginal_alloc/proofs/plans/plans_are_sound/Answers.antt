use Rattle.marginal_alloc.proofs.Sound.{plan_sound}
use Rattle.marginal_alloc.proofs.plans.plans_are_sound.Goals as goal

pub returns : goal.returns
returns c = plan_sound
