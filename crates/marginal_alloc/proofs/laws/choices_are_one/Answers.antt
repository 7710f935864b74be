use Rattle.marginal_alloc.proofs.One.{choices_are_one}
use Rattle.marginal_alloc.proofs.laws.choices_are_one.Goals as goal

pub returns : goal.returns
returns c = λ curves budget one other shapes h k. choices_are_one curves budget shapes one.picks other.picks one.cost other.cost one.price other.price one.critical other.critical h k
