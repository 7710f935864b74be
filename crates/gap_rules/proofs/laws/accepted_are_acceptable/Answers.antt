use Rattle.gap_rules.proofs.Acceptable.{accepted_are_acceptable}
use Rattle.gap_rules.proofs.laws.accepted_are_acceptable.Goals as goal

pub returns : goal.returns
returns c = accepted_are_acceptable
