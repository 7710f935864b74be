-- What is chosen for a case can be evaluated.
use Rattle.std.proofs.Common.{◌≡◌, None, arith}
use Rattle.spares_input.specs.Cases.{CaseRows, IsCase}
use Rattle.demand_rates.specs.Limits.{rate_fault_of}
use Rattle.family_items.specs.Encloses.{CanEvaluate}
use Rattle.case_plan.specs.Chosen.{FitsCase}
use Rattle.case_plan.specs.declared.chosen.ChosenStocks.{ChosenStocks}

-- chosen stocks of an accepted case can be evaluated
pub evaluable : (c : CaseRows) (x : ChosenStocks) → IsCase c → rate_fault_of c ≡ None → FitsCase c x → CanEvaluate 48 c x.stocks
evaluable c x valid accepted fits = record {
  scale = (omega arith, omega arith);
  valid = valid;
  no_fault = accepted;
  are_stocks = fits.are_stocks;
}
