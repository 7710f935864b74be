use Rattle.spares_words.proofs.Plain.{takes_two_words}
use Rattle.spares_words.proofs.laws.takes_two_words.Goals as goal

pub returns : goal.returns
returns c = takes_two_words
