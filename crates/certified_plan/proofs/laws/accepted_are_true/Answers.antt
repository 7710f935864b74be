use Rattle.certified_plan.proofs.Believed.{accepted_true, plain_true}
use Rattle.certified_plan.proofs.laws.accepted_are_true.Goals as goal

pub returns : goal.returns
returns c = record { claims = accepted_true; plain = plain_true }
