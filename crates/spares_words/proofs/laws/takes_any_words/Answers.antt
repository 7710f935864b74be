use Rattle.spares_words.proofs.Plain.{takes_any_words}
use Rattle.spares_words.proofs.laws.takes_any_words.Goals as goal

pub returns : goal.returns
returns c = takes_any_words
