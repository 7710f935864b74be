-- The inputs of a plan's certificate.
use Rattle.std.specs.Prelude.{◌≡◌, ℕ, ◌≤◌, List}
use Rattle.std.specs.Result.{IsOk}
use Rattle.spares_input.specs.Cases.{CaseRows}
use Rattle.spares_input.specs.Money.{most_budget}
use Rattle.spares_input.specs.Stocks.{AreStocksOf, StockList}
use Rattle.fleet_plan.specs.Plans.{CasePlan, IsCasePlan}
use Rattle.fleet_plan.specs.Laws.{IsAcceptedCase}
use Rattle.held_work.specs.Work.{held_work_of}
use Rattle.case_plan.specs.Report.{outcome_of}
use Rattle.case_plan.specs.declared.outcome.Outcome.{Outcome}
use Rattle.case_plan.specs.declared.request.Request.{Request}
use Rattle.price_certificate.specs.declared.certificate.Objective.TheVariants.{Backorders}
use Rattle.price_certificate.specs.declared.certificate.Terms.{Terms}
use Rattle.gap_rules.specs.Scores.{ends_of}

-- the budget is in its range, and the format is 1 or 2; format 1 has only backorders
pub record AreTerms (terms : Terms) : Type 0 where
  pub budget : terms.budget ≤ most_budget
  pub fewest : 1 ≤ terms.format
  pub most : terms.format ≤ 2
  pub first : terms.format ≡ 1 → terms.objective ≡ Backorders

-- the work of the curves from the held stocks is within its limit
abbrev pub IsWithinWork : CaseRows → List ℕ → Type 0
IsWithinWork c held = IsOk (held_work_of c held)

-- the outcome of the plan of an accepted case, from the held stocks and on these terms; its report is asked for under
-- the same budget
pub record IsPlanOn (c : CaseRows) (held : StockList) (terms : Terms) (outcome : Outcome) : Type 0 where
  pub accepted : IsAcceptedCase c
  pub are_terms : AreTerms terms
  pub is_held : AreStocksOf c held
  pub plan : CasePlan
  pub is_plan : IsCasePlan (ends_of terms.objective) c held.list terms.budget plan
  pub request : Request
  pub same_budget : request.budget ≡ terms.budget
  pub is : outcome ≡ outcome_of (ends_of terms.objective) c request plan
