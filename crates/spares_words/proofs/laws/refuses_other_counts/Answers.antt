use Rattle.spares_words.proofs.Plain.{refuses}
use Rattle.spares_words.proofs.laws.refuses_other_counts.Goals as goal

pub returns : goal.returns
returns c = refuses
