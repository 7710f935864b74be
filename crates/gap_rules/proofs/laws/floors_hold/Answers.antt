use Rattle.gap_rules.proofs.FloorLaws.{floors_hold}
use Rattle.gap_rules.proofs.laws.floors_hold.Goals as goal

pub returns : goal.returns
returns c = floors_hold
