use Rattle.hull.proofs.Stops.{least_of_all}
use Rattle.hull.proofs.laws.reaches_least.Goals as goal

pub returns : goal.returns
returns c = λ points curve p q pos h v l w m. least_of_all p q points curve pos h v l w m
