use Rattle.family_points.proofs.Products.{choices_counted}
use Rattle.family_points.proofs.Single.{one_vector}
use Rattle.family_points.proofs.laws.vectors_are_counted.Goals as goal

pub returns : goal.returns
returns c = record { choices = choices_counted; few = one_vector }
