use Rattle.std.proofs.Common.{◌≤◌, sym, subst, IsOk}
use Rattle.case_plan.specs.declared.request.Request.{Request}
use Rattle.held_work.specs.Work.{held_work_of}
use Rattle.price_certificate.specs.declared.certificate.Objective.TheVariants.{Backorders, LogAvailability}
use Rattle.spares_input.specs.Money.{most_budget}
use Rattle.spares_input.specs.Stocks.{AreStocksOf, StockList}
use Rattle.plan_commands.specs.Planning.{planning_on}
use Rattle.plan_commands.proofs.Planned.{planned_by}
use Rattle.plan_commands.proofs.planning.plan_of.Goals as goal

pub request_of-request-requires : goal.request_of-request-requires
request_of-request-requires c = c.requires.ground

pub plan_case-requires-clause-rates : goal.plan_case-requires-clause-rates
plan_case-requires-clause-rates c = c.requires.ground.rates

pub plan_case-requires-clause-held : goal.plan_case-requires-clause-held
plan_case-requires-clause-held c = subst (λ (s : StockList). AreStocksOf c.args.ground.now.given.case s) (sym c.requires.held) c.requires.ground.held

pub plan_case-requires-clause-work : goal.plan_case-requires-clause-work
plan_case-requires-clause-work c = subst (λ (s : StockList). IsOk (held_work_of c.args.ground.now.given.case s.list)) (sym c.requires.held) c.requires.ground.work

pub plan_case-requires-clause-budget : goal.plan_case-requires-clause-budget
plan_case-requires-clause-budget c = subst (λ (k : Request). k.budget ≤ most_budget) (sym c.request_of-request.ensures) c.requires.ground.terms.budget

pub plan_case-requires-in-LogAvailability-clause-rates : goal.plan_case-requires-in-LogAvailability-clause-rates
plan_case-requires-in-LogAvailability-clause-rates c = c.requires.ground.rates

pub plan_case-requires-in-LogAvailability-clause-held : goal.plan_case-requires-in-LogAvailability-clause-held
plan_case-requires-in-LogAvailability-clause-held c =
    subst (λ (s : StockList). AreStocksOf c.args.ground.now.given.case s) (sym c.requires.held) c.requires.ground.held

pub plan_case-requires-in-LogAvailability-clause-work : goal.plan_case-requires-in-LogAvailability-clause-work
plan_case-requires-in-LogAvailability-clause-work c =
    subst (λ (s : StockList). IsOk (held_work_of c.args.ground.now.given.case s.list)) (sym c.requires.held) c.requires.ground.work

pub plan_case-requires-in-LogAvailability-clause-budget : goal.plan_case-requires-in-LogAvailability-clause-budget
plan_case-requires-in-LogAvailability-clause-budget c =
    subst (λ (k : Request). k.budget ≤ most_budget) (sym c.request_of-request.ensures) c.requires.ground.terms.budget

pub returns-in-Backorders : goal.returns-in-Backorders
returns-in-Backorders c =
    planned_by (planning_on c.args.ground.now) c.args.held.now c.request_of-request.result Backorders c.plan_case.result c.in-Backorders.is c.requires.held
    c.request_of-request.ensures c.plan_case.ensures

pub returns-in-LogAvailability : goal.returns-in-LogAvailability
returns-in-LogAvailability c =
    planned_by (planning_on c.args.ground.now) c.args.held.now c.request_of-request.result LogAvailability c.plan_case-in-LogAvailability.result c.in-LogAvailability.is
    c.requires.held c.request_of-request.ensures c.plan_case-in-LogAvailability.ensures
