use Rattle.fleet_model.proofs.UnitLaws.{units_of_demand, share_units, units_of_direct, units_of_zero_stock}
use Rattle.fleet_model.proofs.pipelines.whole_units.Goals as goal

pub returns : goal.returns
returns c = record { demand = units_of_demand; share = share_units; direct = units_of_direct; zero_stock = units_of_zero_stock }
