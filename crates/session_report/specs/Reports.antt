-- When a report is the report of the plan that is due.
use Rattle.std.specs.Prelude.{ℕ, List}
use Rattle.case_edits.specs.Edits.{PlanDue}
use Rattle.fleet_plan.specs.Laws.{IsAcceptedCase}
use Rattle.held_work.specs.Work.{IsNothing}
use Rattle.case_plan.specs.Report.{IsPlanned, plain_request}
use Rattle.plan_report.specs.declared.plan.PlanReport.{PlanReport}
use Rattle.family_points.specs.Points.{plain_ends}

-- The case is accepted, and the report is the report of its plan under this budget with nothing held, for any list of
-- zeros.
pub record IsReportOf (d : PlanDue) (report : PlanReport) : Type 0 where
  pub accepted : IsAcceptedCase d.case
  pub is_planned : (held : List ℕ) → IsNothing held → IsPlanned plain_ends d.case held (plain_request d.budget) report
