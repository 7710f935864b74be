use Rattle.family_numbers.proofs.FromNumbers.{backorders_alone}
use Rattle.family_numbers.proofs.numbers_give_backorders.Goals as goal

pub returns : goal.returns
returns c = λ f case s l j o d own b line base has at. backorders_alone f case l j s o d own b line base.0 base.1 has at
