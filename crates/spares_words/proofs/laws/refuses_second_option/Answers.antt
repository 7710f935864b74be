use Rattle.spares_words.proofs.Plain.{refuses_second}
use Rattle.spares_words.proofs.laws.refuses_second_option.Goals as goal

pub returns : goal.returns
returns c = refuses_second
