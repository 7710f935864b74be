use Rattle.spares_words.proofs.Plain.{takes_joined_plan}
use Rattle.spares_words.proofs.laws.takes_joined_plan.Goals as goal

pub returns : goal.returns
returns c = takes_joined_plan
