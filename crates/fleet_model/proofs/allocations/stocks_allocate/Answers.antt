use Rattle.fleet_model.proofs.AllocationLaws.{cost_holds, stock_holds, stocks_allocation}
use Rattle.fleet_model.proofs.allocations.stocks_allocate.Goals as goal

pub returns : goal.returns
returns c = record { stocks = stocks_allocation; stock = stock_holds; cost = cost_holds }
