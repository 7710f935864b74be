use Rattle.choice_parts.proofs.Chosen.{chosen}
use Rattle.choice_parts.proofs.parts_choose.Goals as goal

pub returns : goal.returns
returns c = chosen
