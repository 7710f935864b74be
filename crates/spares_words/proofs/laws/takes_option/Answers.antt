use Rattle.spares_words.proofs.Plain.{takes_option}
use Rattle.spares_words.proofs.laws.takes_option.Goals as goal

pub returns : goal.returns
returns c = takes_option
