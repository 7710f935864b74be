-- The report of a plan is true of the case, whoever made it.
use Rattle.std.specs.Prelude.{◌≡◌, ℕ, ◌≤◌, ◌↔◌, [], List, length, All}
use Rattle.hull.specs.Limits.{most_price_units, most_price_money, most_floor, most_total}
use Rattle.hull.specs.Scores.{EnclosesValue, LeavesRoom}
use Rattle.spares_input.specs.Limits.{most_stock}
use Rattle.spares_input.specs.Cases.{CaseRows, IsCase}
use Rattle.fleet_model.specs.Rows.{line_units}
use Rattle.family_points.specs.Points.{ScoreEnds, plain_ends}
use Rattle.hull.specs.declared.point.Point.{Point}
use Rattle.step_walk.specs.Prefix.{HaveShapes}
use Rattle.marginal_alloc.specs.Choice.{AreCurves}
use Rattle.fleet_model.specs.Aims.{Value, IsHeldAllocation}
use Rattle.fleet_plan.specs.Families.{case_points}
use Rattle.fleet_plan.specs.Plans.{CasePlan, IsCasePlan}
use Rattle.fleet_plan.specs.Laws.{IsAcceptedCase}
use Rattle.plan_report.specs.Fits.{FitsPlan}
use Rattle.plan_report.specs.declared.plan.PlanReport.{PlanReport}
use Rattle.held_work.specs.Work.{IsNothing}
use Rattle.choice_parts.specs.Parts.{AreFamilies}
use Rattle.case_plan.specs.Report.{AreFamilyCurves, HaveVectors, IsPlanned}
use Rattle.case_plan.specs.Truth.{IsTruePlanReport, IsTrueReport}
use Rattle.case_plan.specs.declared.request.Request.{Request}

-- for any score whose intervals enclose its value, and any held stocks
abbrev pub PlannedReportsAreTrue : Type 0
PlannedReportsAreTrue =
    (ends : ScoreEnds) (value : Value) (c : CaseRows) (held : List ℕ) (request : Request) (report : PlanReport)
    → IsAcceptedCase c → EnclosesValue ends value → (planned : IsPlanned ends c held request report)
    → IsTrueReport ends value c held request planned.plan report

-- for weighted backorders, if nothing is held
abbrev pub PlainReportsAreTrue : Type 0
PlainReportsAreTrue =
    (c : CaseRows) (held : List ℕ) (request : Request) (report : PlanReport)
    → IsAcceptedCase c → IsNothing held → (planned : IsPlanned plain_ends c held request report)
    → IsTruePlanReport c request.budget planned.plan.stocks report

-- and a case has only one
abbrev pub PlannedReportsAreOne : Type 0
PlannedReportsAreOne =
    (ends : ScoreEnds) (c : CaseRows) (held : List ℕ) (request : Request) (one other : PlanReport)
    → IsCase c → IsPlanned ends c held request one → IsPlanned ends c held request other → one ≡ other

-- plans from a list of zeros are plans from the empty list
abbrev pub PlansFromNothing : Type 0
PlansFromNothing =
    (ends : ScoreEnds) (c : CaseRows) (held : List ℕ) (budget : ℕ) (p : CasePlan)
    → IsNothing held → IsCasePlan ends c held budget p ↔ IsCasePlan ends c [] budget p

-- the numbers of a plan fit into a certificate
pub record FitsItsPlace (c : CaseRows) (p : CasePlan) : Type 0 where
  pub price : p.numbers.price.p ≤ most_price_units
  pub money : 1 ≤ p.numbers.price.q
  pub most_money : p.numbers.price.q ≤ most_price_money
  pub floor_count : length p.floors ≡ length (line_units c)
  pub floors_most : All (λ floor. floor ≤ most_floor) p.floors
  pub stocks_most : All (λ stock. stock ≤ most_stock) p.stocks
  pub upper : p.numbers.upper ≤ most_total
  pub bound : p.numbers.bound ≤ most_total
  pub gap : p.numbers.gap ≤ most_total
  pub rounding : p.numbers.rounding ≤ most_total

-- the numbers of each plan of an accepted case fit into a certificate
abbrev pub PlansFit : Type 0
PlansFit =
    (ends : ScoreEnds) (value : Value) (c : CaseRows) (held : List ℕ) (budget : ℕ) (p : CasePlan)
    → IsAcceptedCase c → EnclosesValue ends value → LeavesRoom ends → IsCasePlan ends c held budget p → FitsItsPlace c p

-- and into a report
abbrev pub ReportsFit : Type 0
ReportsFit =
    (ends : ScoreEnds) (value : Value) (c : CaseRows) (held : List ℕ) (request : Request) (report : PlanReport)
    → IsAcceptedCase c → EnclosesValue ends value → LeavesRoom ends → IsPlanned ends c held request report
    → FitsPlan report

-- curves of a case's points, from held stocks within the limits, meet the requirements of a plan
abbrev pub CurvesServe : Type 0
CurvesServe =
    (ends : ScoreEnds) (c : CaseRows) (held : List ℕ) (curves : List (List Point))
    → IsCase c → IsHeldAllocation c held held → HaveShapes curves → AreCurves (case_points ends c held) curves
    → AreFamilyCurves c curves

-- the points of a case, from held stocks within the limits, meet the requirements of a choice by parts
abbrev pub PointsServe : Type 0
PointsServe =
    (ends : ScoreEnds) (c : CaseRows) (held : List ℕ) → IsAcceptedCase c → LeavesRoom ends
    → IsHeldAllocation c held held → AreFamilies (case_points ends c held) × HaveVectors c (case_points ends c held)
