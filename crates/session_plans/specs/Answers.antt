-- The answers to the edits of a case.
use Rattle.std.specs.Prelude.{◌≡◌, ⊤, List, Result, Ok, Err}
use Rattle.std.specs.List.{AllZip}
use Rattle.answers.specs.declared.stop.Stop.{Stop}
use Rattle.answers.specs.declared.stop.Stop.TheVariants as stop
use Rattle.case_edits.specs.Edits.{PlanDue}
use Rattle.case_edits.specs.declared.fault.EditFault.{EditFault}
use Rattle.session_report.specs.declared.report.SessionReport.{SessionReport}
use Rattle.session_report.specs.Reports.{IsReportOf}

-- a report for each plan that is due, or else the fault
abbrev pub AnswersEdits : Result (List PlanDue) EditFault → Result SessionReport (Stop EditFault) → Type 0
AnswersEdits (Ok due) (Ok report) = AllZip IsReportOf due report.plans
AnswersEdits (Err f) (Ok report) = ⊥
AnswersEdits answer (Err stop.NoMemory) = ⊤
AnswersEdits answer (Err (stop.Fault f)) = answer ≡ Err f
