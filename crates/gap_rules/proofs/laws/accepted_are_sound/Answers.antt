use Rattle.gap_rules.proofs.Soundly.{accepted_are_sound}
use Rattle.gap_rules.proofs.laws.accepted_are_sound.Goals as goal

pub returns : goal.returns
returns c = accepted_are_sound
