-- How a plan of a case is reported.
use Rattle.std.specs.Prelude.{◌≡◌, ℕ, ◌<◌, ◌≤◌, Bool, List, Option, Some, None, length, option_map, if◌then◌else◌, false}
use Rattle.std.specs.List.{AllZip, sum_by}
use Rattle.fixed_interval.specs.Ends.{Ends}
use Rattle.hull.specs.declared.point.Point.{Point}
use Rattle.hull.specs.Curves.{Among}
use Rattle.fleet_model.specs.Rows.{line_units}
use Rattle.step_walk.specs.Prefix.{vertex_at}
use Rattle.marginal_alloc.specs.Choice.{AreCurves}
use Rattle.fleet_plan.specs.Families.{case_points, hi_at}
use Rattle.spares_input.specs.Frames.{part_at}
use Rattle.spares_input.specs.Cases.{CaseRows}
use Rattle.case_figures.specs.Figures.{figures_of}
use Rattle.family_points.specs.Vectors.{limits, stock_list}
use Rattle.family_points.specs.Points.{ScoreEnds, scored_total}
use Rattle.fleet_plan.specs.Plans.{CasePlan, critical_line, IsCasePlan}
use Rattle.plan_report.specs.declared.plan.CriticalLine.{CriticalLine}
use Rattle.plan_report.specs.declared.plan.PlanReport.{PlanReport}
use Rattle.case_plan.specs.declared.outcome.Outcome.{Outcome}
use Rattle.case_plan.specs.declared.request.Request.{Request}

-- a plan of weighted backorders, with no stocks on hand
abbrev pub plain_request : ℕ → Request
plain_request budget = record { budget = budget; loss = false; on_hand = None }

-- the lower end of the aim at the stocks s: the sum of the lower ends of all scored totals
abbrev pub lo_at : ScoreEnds → CaseRows → List ℕ → ℕ
lo_at ends c s = sum_by (λ l. (scored_total c l ends s).lo) (line_units c)

-- the lower and the upper end of the aim at the stocks s
abbrev pub aim_ends : ScoreEnds → CaseRows → List ℕ → Ends
aim_ends ends c s = record { lo = lo_at ends c s; hi = hi_at ends c s }

-- these ends, if they are asked for
abbrev pub if_asked : Bool → Ends → Option Ends
if_asked asked x = if asked then Some x else None

-- the report line of a step of line unit l that costs `rise`
abbrev pub step_line : CaseRows → ℕ → ℕ → CriticalLine
step_line c rise l = record { part = (part_at c.parts l).name; cost = rise }

-- The report of a plan. Its cost is the plan's cost: if stocks are held, the cost of the stocks added to them.
abbrev pub report_of : ScoreEnds → CaseRows → Request → CasePlan → PlanReport
report_of ends c request p = record {
  budget = request.budget;
  figures = record (figures_of 48 c (stock_list c p.stocks)) { cost = p.numbers.cost };
  on_hand = request.on_hand;
  loss = if_asked request.loss (aim_ends ends c p.stocks);
  bound = p.numbers.bound;
  gap = p.numbers.gap;
  rounding = p.numbers.rounding;
  price = p.numbers.price;
  hull = p.numbers.hull_cost;
  critical = option_map (step_line c p.numbers.price.q) (critical_line c p);
}

-- The outcome: the report with the stocks, and the claims of the certificate.
abbrev pub outcome_of : ScoreEnds → CaseRows → Request → CasePlan → Outcome
outcome_of ends c request p = record {
  report = report_of ends c request p;
  stocks = stock_list c p.stocks;
  price = p.numbers.price;
  floors = p.floors;
  upper = p.numbers.upper;
}

-- The outcome is the outcome of the case's plan from the held stocks.
pub record IsOutcome (ends : ScoreEnds) (c : CaseRows) (held : List ℕ) (request : Request) (outcome : Outcome)
    : Type 0 where
  pub plan : CasePlan
  pub is_plan : IsCasePlan ends c held request.budget plan
  pub is : outcome ≡ outcome_of ends c request plan

-- The report is the report of the case's plan from the held stocks.
pub record IsPlanned (ends : ScoreEnds) (c : CaseRows) (held : List ℕ) (request : Request) (report : PlanReport)
    : Type 0 where
  pub plan : CasePlan
  pub is_plan : IsCasePlan ends c held request.budget plan
  pub is : report ≡ report_of ends c request plan

-- there are points for each line unit, with vectors of its family within the limits
abbrev pub HaveVectors : CaseRows → List (List Point) → Type 0
HaveVectors c families = AllZip (λ l points. (v : Point) → Among v points → AllZip (λ x y. x ≤ y) v.stocks (limits c l))
    (line_units c) families

-- there is a curve for each line unit, which begins at cost 0 and has vectors of the family within the limits
pub record AreFamilyCurves (c : CaseRows) (curves : List (List Point)) : Type 0 where
  pub count : length curves ≡ length (line_units c)
  pub free : (f : ℕ) → f < length curves → (vertex_at curves f 0).cost ≡ 0
  pub vectors : HaveVectors c curves

-- the outcome is the outcome of the plan of all points with these curves, for any held stocks
abbrev pub IsPlanOf : CaseRows → List (List Point) → Request → Outcome → Type 0
IsPlanOf c curves request outcome =
    (ends : ScoreEnds) (held : List ℕ) → AreCurves (case_points ends c held) curves
    → IsOutcome ends c held request outcome
