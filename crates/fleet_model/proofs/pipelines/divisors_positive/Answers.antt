use Rattle.fleet_model.proofs.DivisorLaws.{all_systems_positive, per_system_positive, systems_positive}
use Rattle.fleet_model.proofs.pipelines.divisors_positive.Goals as goal

pub returns : goal.returns
returns c = record { systems = systems_positive; per_system = per_system_positive; all_systems = all_systems_positive }
