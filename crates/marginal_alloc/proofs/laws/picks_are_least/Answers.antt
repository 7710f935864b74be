use Rattle.marginal_alloc.proofs.Bounds.{choice_least}
use Rattle.marginal_alloc.proofs.laws.picks_are_least.Goals as goal

pub returns : goal.returns
returns c = λ families curves budget chosen h. (choice_least families curves budget chosen.picks chosen.cost chosen.price h.areas h.shapes chosen.critical h.choice).1
