-- The answers of the calls that plan, before any write. No promise of the crate rests on these words.
use Rattle.std.specs.Prelude.{◌≡◌, ⊤, IfSome, Result, Ok, Err}
use Rattle.answers.specs.declared.stop.Stop.{Stop}
use Rattle.answers.specs.declared.stop.Stop.TheVariants as stop
use Rattle.case_plan.specs.Report.{IsOutcome}
use Rattle.case_plan.specs.declared.outcome.Outcome as plans
use Rattle.certified_plan.specs.Inputs.{AreTerms, IsWithinWork}
use Rattle.demand_rates.specs.Rates.{AreRatesOf}
use Rattle.fleet_plan.specs.Laws.{IsAcceptedCase}
use Rattle.gap_rules.specs.Scores.{ends_of}
use Rattle.refusals.specs.declared.failure.Failure.{Failure}
use Rattle.spares_input.specs.Stocks.{AreStocksOf}
use Rattle.command_outcomes.specs.Plans.{Planning, held_stocks_of, plan_request}
use Rattle.plan_commands.specs.declared.planning.Ground.{Ground}

-- the planning of a ground
abbrev pub planning_on : Ground → Planning
planning_on g = record { case = g.given.case; on_hand = g.on_hand; terms = g.terms }

-- The case is accepted, its rates are its own, the held stocks are within its limits, and the work is within the limit.
-- The terms are in their ranges, and with stocks on hand the certificate has format 2.
pub record IsGround (g : Ground) : Type 0 where
  pub accepted : IsAcceptedCase g.given.case
  pub rates : AreRatesOf g.given.case g.given.rates
  pub held : AreStocksOf g.given.case (held_stocks_of (planning_on g))
  pub work : IsWithinWork g.given.case (held_stocks_of (planning_on g)).list
  pub terms : AreTerms g.terms
  pub format : IfSome g.on_hand (λ _. g.terms.format ≡ 2)

-- the outcome is the outcome of the ground's plan
abbrev pub IsPlanFor : Ground → plans.Outcome → Type 0
IsPlanFor g o =
    IsOutcome (ends_of g.terms.objective) g.given.case (held_stocks_of (planning_on g)).list
    (plan_request (planning_on g)) o

-- the answer is a ground of this planning, or its refusal; want of memory may always come
abbrev pub TellsGround : Result Planning Failure → Result Ground (Stop Failure) → Type 0
TellsGround given (Ok g) = given ≡ Ok (planning_on g)
TellsGround given (Err stop.NoMemory) = ⊤
TellsGround given (Err (stop.Fault failure)) = given ≡ Err failure
