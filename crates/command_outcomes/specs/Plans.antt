-- Plans: the planning that the bytes of tables ask for, and the report and the certificate of its plan.
use Rattle.std.specs.Prelude.{◌≡◌, ℕ, Bool, true, false, List, Option, Some, None, Result, Ok}
use Rattle.std.specs.Option.{option_map}
use Rattle.case_plan.specs.Report.{outcome_of}
use Rattle.case_plan.specs.declared.outcome.Outcome as plans
use Rattle.case_plan.specs.declared.request.Request.{Request}
use Rattle.certified_plan.specs.Certificates.{certificate_of, text_of}
use Rattle.gap_rules.specs.Scores.{ends_of}
use Rattle.price_certificate.specs.declared.certificate.Terms.{Terms}
use Rattle.fleet_plan.specs.Plans.{CasePlan, IsCasePlan}
use Rattle.held_work.specs.Work.{held_work_of}
use Rattle.price_certificate.specs.declared.certificate.Certificate.{Certificate}
use Rattle.price_certificate.specs.declared.certificate.Objective.{Objective}
use Rattle.price_certificate.specs.declared.certificate.Objective.TheVariants.{Backorders, LogAvailability}
use Rattle.refusals.specs.Causes.{or_refuse}
use Rattle.refusals.specs.Lines.{no_names}
use Rattle.refusals.specs.declared.failure.Failure.{Failure}
use Rattle.refusals.specs.declared.refusal.File.TheVariants.{OnHand}
use Rattle.refusals.specs.declared.refusal.Refusal.TheVariants as refusal
use Rattle.spares_input.specs.Cases.{CaseRows}
use Rattle.spares_input.specs.Stocks.{StockList, cost_of_stocks}
use Rattle.answers.specs.Steps.{◌>>=◌}
use Rattle.order_inputs.specs.Cases.{case_within_work, stocked_by}
use Rattle.order_inputs.specs.Files.{CaseBytes}
use Rattle.command_outcomes.specs.Held.{held_in}
use Rattle.command_outcomes.specs.declared.done.Done.TheVariants.{Planned}
use Rattle.command_outcomes.specs.declared.done.TaskOutcome.{TaskOutcome}

-- The inputs of a plan: a case, the stocks on hand if there is a table of them, and the terms.
pub record Planning : Type 0 where
  pub case : CaseRows
  pub on_hand : Option StockList
  pub terms : Terms

-- ---- the planning of tables, if the curves of their case take few enough tables

-- the planning of tables, from stocks on hand if there is a table of them, or the first refusal
abbrev pub planning_of : CaseBytes → Option (List ℕ) → Terms → Result Planning Failure
planning_of tables None terms = do
  case ← case_within_work tables
  Ok (record { case = case; on_hand = None; terms = terms })
planning_of tables (Some stocks) terms = do
  given ← stocked_by OnHand tables stocks
  work ← or_refuse no_names refusal.Work (held_work_of given.case given.stocks.list)
  Ok (record { case = given.case; on_hand = Some given.stocks; terms = terms })

-- ---- the plan

-- the held stocks: the stocks on hand, or zeros
abbrev pub held_stocks_of : Planning → StockList
held_stocks_of x = held_in x.case x.on_hand

-- the objective is the loss
abbrev pub is_loss : Objective → Bool
is_loss Backorders = false
is_loss LogAvailability = true

-- what is asked for: the budget, whether the objective is the loss, and the cost of the stocks on hand
abbrev pub plan_request : Planning → Request
plan_request x = record {
  budget = x.terms.budget;
  loss = is_loss x.terms.objective;
  on_hand = option_map (cost_of_stocks x.case) x.on_hand;
}

-- the outcome of a plan
abbrev pub plan_outcome : Planning → CasePlan → plans.Outcome
plan_outcome x p = outcome_of (ends_of x.terms.objective) x.case (plan_request x) p

-- its certificate
abbrev pub plan_certificate : Planning → CasePlan → Certificate
plan_certificate x p = certificate_of x.case (held_stocks_of x) x.terms (plan_outcome x p)

-- the text of its certificate
abbrev pub certificate_text : Planning → CasePlan → List ℕ
certificate_text x p = text_of (plan_certificate x p) x.on_hand

-- the report of a plan, and the text of its certificate under this name
abbrev pub planned : Planning → List ℕ → CasePlan → TaskOutcome
planned x name p = record {
  done = Planned (plan_outcome x p).report;
  writes = Some (record { name = name; bytes = certificate_text x p });
}

-- the outcome is the outcome of the case's plan on these terms; there is exactly one
pub record IsPlannedOutcome (x : Planning) (name : List ℕ) (outcome : TaskOutcome) : Type 0 where
  pub plan : CasePlan
  pub is_plan : IsCasePlan (ends_of x.terms.objective) x.case (held_stocks_of x).list x.terms.budget plan
  pub is : outcome ≡ planned x name plan
