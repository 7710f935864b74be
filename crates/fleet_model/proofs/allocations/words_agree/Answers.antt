use Rattle.fleet_model.proofs.WordLaws.{plain_words, held_costs}
use Rattle.fleet_model.proofs.allocations.words_agree.Goals as goal

pub returns : goal.returns
returns c = record { plain = plain_words; held = held_costs }
