-- The outcome of stocks that were chosen from curves, whatever points the curves summarise.
use Rattle.std.specs.Prelude.{◌≡◌, List, option_map}
use Rattle.hull.specs.declared.point.Point.{Point}
use Rattle.spares_input.specs.Cases.{CaseRows}
use Rattle.case_figures.specs.Figures.{figures_of}
use Rattle.fleet_plan.specs.Plans.{line_of_family}
use Rattle.plan_report.specs.declared.plan.PlanReport.{PlanReport}
use Rattle.case_plan.specs.Chosen.{FitsCase, IsChosen}
use Rattle.case_plan.specs.Report.{if_asked, step_line}
use Rattle.case_plan.specs.declared.chosen.ChosenStocks.{ChosenStocks}
use Rattle.case_plan.specs.declared.outcome.Outcome.{Outcome}
use Rattle.case_plan.specs.declared.request.Request.{Request}

-- The report of chosen stocks: their figures with the cost of the plan, the ends of the aim if they are asked for, and
-- the numbers of the plan.
abbrev pub chosen_report : CaseRows → Request → ChosenStocks → PlanReport
chosen_report c request x = record {
  budget = request.budget;
  figures = record (figures_of 48 c x.stocks) { cost = x.numbers.cost };
  on_hand = request.on_hand;
  loss = if_asked request.loss (record { lo = x.lower; hi = x.numbers.upper });
  bound = x.numbers.bound;
  gap = x.numbers.gap;
  rounding = x.numbers.rounding;
  price = x.numbers.price;
  hull = x.numbers.hull_cost;
  critical = option_map (step_line c x.numbers.price.q) (option_map (line_of_family c) x.numbers.critical);
}

-- The outcome of chosen stocks: the report with the stocks, and the claims of the certificate.
abbrev pub chosen_outcome : CaseRows → Request → ChosenStocks → Outcome
chosen_outcome c request x = record {
  report = chosen_report c request x;
  stocks = x.stocks;
  price = x.numbers.price;
  floors = x.floors.items;
  upper = x.numbers.upper;
}

-- The outcome is that of chosen stocks: the plan, under the budget, of any points with these curves.
pub record IsOutcomeOf (c : CaseRows) (curves : List (List Point)) (request : Request) (outcome : Outcome)
    : Type 0 where
  pub chosen : ChosenStocks
  pub fits : FitsCase c chosen
  pub is_chosen : IsChosen c curves request.budget chosen
  pub is : outcome ≡ chosen_outcome c request chosen
