-- How a session follows the lines of an edits file. No promise of the crate rests on these words.
use Rattle.std.specs.Prelude.{◌≡◌, ⊤, List, Result, Ok, Err}
use Rattle.std.specs.List.{AllZip}
use Rattle.answers.specs.declared.stop.Stop.{Stop}
use Rattle.answers.specs.declared.stop.Stop.TheVariants as stop
use Rattle.plan_report.specs.declared.plan.PlanReport.{PlanReport}
use Rattle.case_edits.specs.declared.fault.EditFault.{EditFault}
use Rattle.case_edits.specs.Edits.{PlanDue}
use Rattle.session_plans.specs.Sessions.{SessionRows}
use Rattle.session_report.specs.Reports.{IsReportOf}
use Rattle.case_edits.specs.Edits.{Standing}

-- the state that the lines have reached with this session and these plans due
abbrev pub standing : SessionRows → List PlanDue → Standing
standing s due = record { case = s.case; budget = s.budget; due = due }

-- session and plans match the state that the lines have reached
pub record HasFollowed (at : Result Standing EditFault) (s : SessionRows) (plans : List PlanReport) : Type 0 where
  pub due : List PlanDue
  pub is : at ≡ Ok (standing s due)
  pub told : AllZip IsReportOf due plans

-- the session has followed the lines, or the fault is theirs; want of memory may always come
abbrev pub Follows : {U : Type 0} → Result Standing EditFault → SessionRows → List PlanReport
    → Result U (Stop EditFault) → Type 0
Follows at s plans (Ok u) = HasFollowed at s plans
Follows at s plans (Err stop.NoMemory) = ⊤
Follows at s plans (Err (stop.Fault f)) = at ≡ Err f
