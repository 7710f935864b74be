-- What a session makes is what its task asks for, and it is true.
use Rattle.std.proofs.Common.{◌≡◌, refl, Result, Ok, Err, ℕ, List}
use Rattle.std.specs.Prelude.{All}
use Rattle.case_edits.specs.Edits.{PlanDue, session_of}
use Rattle.case_edits.specs.declared.fault.EditFault.{EditFault}
use Rattle.plan_report.specs.Fits.{FitsPlan}
use Rattle.session_plans.specs.Answers.{AnswersEdits}
use Rattle.session_report.specs.declared.report.SessionReport.{SessionReport}
use Rattle.refusals.specs.Causes.{or_refuse}
use Rattle.refusals.specs.Lines.{no_names}
use Rattle.refusals.specs.declared.failure.Failure.{Failure}
use Rattle.refusals.specs.declared.refusal.Refusal.TheVariants as refusal
use Rattle.spares_input.specs.Cases.{CaseRows}
use Rattle.answers.specs.Steps.{◌>>=◌}
use Rattle.command_outcomes.specs.Making.{Is, IsMade}
use Rattle.command_outcomes.specs.Task.{Task, plan_in_turn, printed}
use Rattle.command_outcomes.specs.declared.done.Done.TheVariants.{Session}
use Rattle.command_outcomes.proofs.Public.{made_in_turn}

abbrev asked : Result CaseRows Failure → List ℕ → Result Task Failure
asked given edits = given >>= λ case. (or_refuse no_names refusal.Edit (session_of case edits) >>= λ due. Ok (plan_in_turn due))

module _ (c : CaseRows) (edits : List ℕ) (given : Result CaseRows Failure) (is_given : given ≡ Ok c) where
  answered_by : (of : Result (List PlanDue) EditFault) (report : SessionReport) → session_of c edits ≡ of → AnswersEdits of (Ok report) → All FitsPlan report.plans
      → IsMade (Is (asked given edits)) (printed (Session report))
  answered_by (Ok due) report e h fits = made_in_turn c edits given is_given due e report h fits
  answered_by (Err f) report e h fits = absurd h

  -- a session whose reports answer its edits is what its task asks for
  pub answered : (report : SessionReport) → AnswersEdits (session_of c edits) (Ok report) → All FitsPlan report.plans → IsMade (Is (asked given edits)) (printed (Session report))
  answered report h fits = answered_by (session_of c edits) report refl h fits
