-- The truth of a plan's report, in the words of the model. A statement at a depth holds at every depth from 1024 on.
use Rattle.std.specs.Prelude.{◌≡◌, ℕ, ◌+◌, ◌-◌, ◌*◌, ◌≤◌, List, option_map}
use Rattle.exact_model.specs.Fraction.{Encloses, ◌≤ℚ◌}
use Rattle.fixed_interval.specs.Text.{text_value}
use Rattle.spares_input.specs.Cases.{CaseRows}
use Rattle.fleet_model.specs.Fleet.{IsAllocation, cost, case_total}
use Rattle.fleet_model.specs.Headline.{NoAllocationHasFewer, NoPriceIsHigher}
use Rattle.fleet_model.specs.Aims.{Value, aim, IsHeldAllocation, cost_beyond}
use Rattle.fleet_model.specs.Bounds.{NoneHasLess, NoPriceShowsMore, HasNoMore}
use Rattle.case_figures.specs.Spans.{ends}
use Rattle.case_figures.specs.Shows.{ShowsFigures}
use Rattle.family_points.specs.Vectors.{stock_list}
use Rattle.family_points.specs.Points.{ScoreEnds}
use Rattle.fleet_plan.specs.Families.{hi_at}
use Rattle.fleet_plan.specs.Plans.{CasePlan, CaseClaims, AreAcceptable, critical_line}
use Rattle.plan_report.specs.Texts.{millionths_down}
use Rattle.plan_report.specs.declared.plan.PlanReport.{PlanReport}
use Rattle.case_plan.specs.Report.{lo_at, aim_ends, if_asked, step_line}
use Rattle.case_plan.specs.declared.request.Request.{Request}

-- no allocation within the budget has an aim below the printed bound
abbrev pub NoneHasLessThanPrinted : Value → CaseRows → List ℕ → ℕ → ℕ → Type 0
NoneHasLessThanPrinted value c held budget bound =
    (n : ℕ) → 1024 ≤ n → (s : List ℕ) → IsHeldAllocation c held s → cost_beyond c held s ≤ budget
    → text_value 6 (millionths_down 48 bound) ≤ℚ aim value c s n

-- A plan's report is true, for any held stocks, any score and the value that the score encloses. The stocks are the
-- plan's.
pub record IsTrueReport (ends : ScoreEnds) (value : Value) (c : CaseRows) (held : List ℕ) (request : Request)
    (plan : CasePlan) (report : PlanReport) : Type 0 where
  pub budget_is : report.budget ≡ request.budget
  pub on_hand_is : report.on_hand ≡ request.on_hand
  -- the stocks include the held stocks and are within the limits; the added stocks cost the printed cost, which is at
  -- most the budget
  pub allocation : IsHeldAllocation c held plan.stocks
  pub cost_is : report.figures.cost ≡ cost_beyond c held plan.stocks
  pub fits : report.figures.cost ≤ request.budget
  -- each mean, variance, backorder and availability is enclosed at these stocks; the figures are theirs, with the cost
  -- of all stocks in place of the cost of the added ones
  pub shows : ShowsFigures 48 c (stock_list c plan.stocks) (record report.figures { cost = cost c plan.stocks })
  -- no allocation within the budget has an aim below the bound or below the printed bound
  pub none_less : NoneHasLess value c held request.budget report.bound
  pub printed : NoneHasLessThanPrinted value c held request.budget report.bound
  -- no price shows a bound higher by more than the rounding
  pub no_price : NoPriceShowsMore value c held request.budget (report.bound + report.rounding)
  -- nor do acceptable claims have one
  pub no_claims : (x : CaseClaims) → AreAcceptable ends c held request.budget x
      → x.bound ≤ report.bound + report.rounding
  -- the bound plus the gap is the upper end of the aim, and the stocks have no more
  pub upper : report.bound + report.gap ≡ hi_at ends c plan.stocks
  pub no_more : HasNoMore value c plan.stocks (report.bound + report.gap)
  -- the loss is reported if it is asked for, and encloses the aim
  pub loss_is : report.loss ≡ if_asked request.loss (aim_ends ends c plan.stocks)
  pub encloses : Encloses 48 (lo_at ends c plan.stocks) (hi_at ends c plan.stocks) (aim value c plan.stocks)
  -- price, hull cost and critical step are the plan's, and show how small the gap is
  pub price_is : report.price ≡ plan.numbers.price
  pub hull_is : report.hull ≡ plan.numbers.hull_cost
  pub critical_is : report.critical ≡ option_map (step_line c report.price.q) (critical_line c plan)
  pub small_gap : report.price.q * report.gap
      ≤ report.price.p * (request.budget - report.hull) + report.price.q * report.rounding

-- The same for weighted backorders if nothing is held, in the words of the model alone.
pub record IsTruePlanReport (c : CaseRows) (budget : ℕ) (stocks : List ℕ) (report : PlanReport) : Type 0 where
  pub budget_is : report.budget ≡ budget
  -- the stocks are within the limits, and cost at most the budget
  pub allocation : IsAllocation c stocks
  pub fits : cost c stocks ≤ budget
  -- each mean, variance, backorder and availability is enclosed at these stocks, and the cost is their cost
  pub shows : ShowsFigures 48 c (stock_list c stocks) report.figures
  -- no allocation within the budget has fewer backorders than the bound or than the printed bound
  pub fewer : NoAllocationHasFewer c budget report.bound
  pub printed : (n : ℕ) → 1024 ≤ n → (s : List ℕ) → IsAllocation c s → cost c s ≤ budget
      → text_value 6 (millionths_down 48 report.bound) ≤ℚ case_total c s n
  -- no price has a bound higher by more than the rounding
  pub no_price : NoPriceIsHigher c budget (report.bound + report.rounding)
  -- and the bound plus the gap is the total's upper end
  pub gap : report.bound + report.gap ≡ (ends report.figures.total).hi
