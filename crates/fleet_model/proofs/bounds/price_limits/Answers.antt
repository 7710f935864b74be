use Rattle.fleet_model.proofs.FloorLaws.{hull_limit, no_price_around, no_price_within}
use Rattle.fleet_model.proofs.bounds.price_limits.Goals as goal

pub returns : goal.returns
returns c = record { around = no_price_around; hull = hull_limit; within = no_price_within }
