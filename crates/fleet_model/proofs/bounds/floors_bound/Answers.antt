use Rattle.fleet_model.proofs.FloorLaws.{floors_bound}
use Rattle.fleet_model.proofs.bounds.floors_bound.Goals as goal

pub returns : goal.returns
returns c = floors_bound
