use Rattle.spares_words.proofs.Plain.{takes_joined}
use Rattle.spares_words.proofs.laws.takes_joined_option.Goals as goal

pub returns : goal.returns
returns c = takes_joined
