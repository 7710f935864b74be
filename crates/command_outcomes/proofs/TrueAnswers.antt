-- The reports of the plans that edits ask for are what their task asks for, and true.
use Rattle.std.proofs.Common.{◌≡◌, refl, Result, Ok, ℕ, List, [], ◌∷◌}
use Rattle.std.specs.List.{AllZip}
use Rattle.std.specs.Prelude.{All}
use Rattle.case_edits.specs.Edits.{PlanDue, session_of}
use Rattle.case_plan.proofs.Public.{plain_true, planned_true}
use Rattle.fleet_model.specs.Aims.{weighted_backorders}
use Rattle.fleet_plan.proofs.Public.{plain_encloses}
use Rattle.plan_report.specs.Fits.{FitsPlan}
use Rattle.plan_report.specs.declared.plan.PlanReport.{PlanReport}
use Rattle.session_report.specs.Reports.{IsReportOf}
use Rattle.session_report.specs.declared.report.SessionReport.{SessionReport}
use Rattle.refusals.specs.Causes.{or_refuse}
use Rattle.refusals.specs.Lines.{no_names}
use Rattle.refusals.specs.declared.failure.Failure.{Failure}
use Rattle.refusals.specs.declared.refusal.Refusal.TheVariants as refusal
use Rattle.spares_input.specs.Cases.{CaseRows}
use Rattle.answers.specs.Steps.{◌>>=◌}
use Rattle.demo_accepts.proofs.Public.{zeros_hold}
use Rattle.command_outcomes.specs.Headline.{IsTrueAnswer}
use Rattle.command_outcomes.specs.Making.{Is, IsMade}
use Rattle.command_outcomes.specs.Task.{plan_in_turn, printed}
use Rattle.command_outcomes.specs.declared.done.Done.TheVariants.{Session}
use Rattle.command_outcomes.proofs.Shown.{span_prints}
use Rattle.family_points.specs.Points.{plain_ends}
use Rattle.case_plan.specs.Report.{plain_request}
use Rattle.spares_input.specs.Stocks.{nothing_held}

-- the report of a plan is true of its case and budget
answer_true : (d : PlanDue) (report : PlanReport) → IsReportOf d report → IsTrueAnswer d report
answer_true d report h =
    let none = zeros_hold d.case in
    let planned = h.is_planned (nothing_held d.case).list none in
    record {
      plan = planned.plan;
      accepted = h.accepted;
      says = planned_true plain_ends weighted_backorders d.case (nothing_held d.case).list (plain_request d.budget) report h.accepted plain_encloses planned;
      plainly = plain_true d.case (nothing_held d.case).list (plain_request d.budget) report h.accepted none planned;
      prints = span_prints 48;
    }

answers_true : (due : List PlanDue) (plans : List PlanReport) → AllZip IsReportOf due plans → AllZip IsTrueAnswer due plans
answers_true [] [] h = h
answers_true (d ∷ due) (report ∷ plans) h = (answer_true d report h.0, answers_true due plans h.1)
answers_true [] (report ∷ plans) h = h
answers_true (d ∷ due) [] h = h

-- a session whose reports are those of the plans that its edits ask for is what its task asks for
pub made_in_turn : (c : CaseRows) (edits : List ℕ) (given : Result CaseRows Failure) → given ≡ Ok c → (due : List PlanDue) → session_of c edits ≡ Ok due
    → (report : SessionReport) → AllZip IsReportOf due report.plans → All FitsPlan report.plans
    → IsMade (Is (given >>= λ case. (or_refuse no_names refusal.Edit (session_of case edits) >>= λ due. Ok (plan_in_turn due)))) (printed (Session report))
made_in_turn c edits given is_given due e report h fits = record {
  task = plan_in_turn due;
  is_due = rw (is_given, e) refl;
  fulfils = record { report = report; is = refl; holds = h };
  is_true = record { report = report; is = refl; holds = answers_true due report.plans h };
  prints = fits;
}
