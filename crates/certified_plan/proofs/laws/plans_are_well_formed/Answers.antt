use Rattle.certified_plan.proofs.Formed.{well_formed}
use Rattle.certified_plan.proofs.laws.plans_are_well_formed.Goals as goal

pub returns : goal.returns
returns r = well_formed
