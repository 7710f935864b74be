use Rattle.fleet_model.proofs.AllocationLaws.{allocation_reaches}
use Rattle.fleet_model.proofs.PairLaws.{capped}
use Rattle.fleet_model.proofs.pipelines.within_zero_stock_means.Goals as goal

pub returns : goal.returns
returns c = record { capped = capped; reached = allocation_reaches }
