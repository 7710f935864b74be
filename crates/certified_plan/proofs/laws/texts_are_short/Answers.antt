use Rattle.certified_plan.proofs.Short.{text_short, held_short}
use Rattle.certified_plan.proofs.laws.texts_are_short.Goals as goal

pub returns : goal.returns
returns r = record { certificate = text_short; held = held_short }
