use Rattle.std.proofs.Common.{◌≡◌, ℕ, None, refl, sym, subst}
use Rattle.std.proofs.lemmas.Result.{IfOk-weaker}
use Rattle.spares_input.specs.Cases.{CaseRows, IsCase}
use Rattle.spares_input.specs.Stocks.{AreStocksOf, StockList}
use Rattle.demand_rates.specs.Limits.{rate_fault_of}
use Rattle.fleet_plan.specs.Plans.{IsCasePlan}
use Rattle.case_plan.specs.Report.{IsOutcome, outcome_of}
use Rattle.case_plan.specs.declared.outcome.Outcome.{Outcome}
use Rattle.case_plan.specs.declared.request.Request.{Request}
use Rattle.certified_plan.specs.Inputs.{AreTerms, IsPlanOn}
use Rattle.gap_rules.specs.Scores.{ends_of}
use Rattle.price_certificate.specs.declared.certificate.Objective.{Objective}
use Rattle.price_certificate.specs.declared.certificate.Objective.TheVariants.{Backorders, LogAvailability}
use Rattle.price_certificate.specs.declared.certificate.Terms.{Terms}
use Rattle.test_reports.proofs.certified_plan_tests.plan_on.Goals as goal

-- the outcome of the case's plan by the score of the objective is that of a plan on these terms
plan_is_on : (c : CaseRows) (held : StockList) (terms : Terms) (request : Request) (aim : Objective) (o : Outcome) → IsCase c → rate_fault_of c ≡ None → AreStocksOf c held
    → AreTerms terms → request.budget ≡ terms.budget → terms.objective ≡ aim → IsOutcome (ends_of aim) c held.list request o → IsPlanOn c held terms o
plan_is_on c held terms request aim o valid no_fault had are money is h = record {
  accepted = record { valid = valid; no_fault = no_fault };
  are_terms = are;
  is_held = had;
  plan = h.plan;
  is_plan = subst (λ (n : ℕ). IsCasePlan (ends_of terms.objective) c held.list n h.plan) money
      (subst (λ (a : Objective). IsCasePlan (ends_of a) c held.list request.budget h.plan) (sym is) h.is_plan);
  request = request;
  same_budget = money;
  is = subst (λ (a : Objective). o ≡ outcome_of (ends_of a) c request h.plan) (sym is) h.is;
}

pub returns-in-Backorders : goal.returns-in-Backorders
returns-in-Backorders c =
    IfOk-weaker c.plan_case.result _ _
    (λ o h. plan_is_on c.args.case.now c.args.held.now c.args.terms _ Backorders o c.invariant.ensures.valid c.requires.rates.no_fault c.requires.held c.requires.terms refl
    c.in-Backorders.is h) c.plan_case.ensures

pub returns-in-LogAvailability : goal.returns-in-LogAvailability
returns-in-LogAvailability c =
    IfOk-weaker c.plan_case-in-LogAvailability.result _ _
    (λ o h. plan_is_on c.args.case.now c.args.held.now c.args.terms _ LogAvailability o c.invariant.ensures.valid c.requires.rates.no_fault c.requires.held c.requires.terms refl
    c.in-LogAvailability.is h) c.plan_case-in-LogAvailability.ensures
