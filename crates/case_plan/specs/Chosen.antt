-- The stocks chosen for a case, before their evaluation.
use Rattle.std.specs.Prelude.{◌≡◌, ◌^◌, ◌<◌, ◌≤◌, ℕ, List, IfSome, length}
use Rattle.hull.specs.declared.point.Point.{Point}
use Rattle.spares_input.specs.Cases.{CaseRows}
use Rattle.spares_input.specs.Stocks.{AreStocksOf}
use Rattle.fleet_model.specs.Rows.{line_units}
use Rattle.price_bounds.specs.Sums.{lo_of}
use Rattle.price_bounds.specs.Soundness.{stocks_of}
use Rattle.marginal_alloc.specs.Choice.{AreCurves}
use Rattle.marginal_alloc.specs.Plans.{IsPlan}
use Rattle.fleet_plan.specs.Families.{vectors_at}
use Rattle.case_plan.specs.declared.chosen.ChosenStocks.{ChosenStocks}

-- The stocks are for the case and within its limits, and the numbers fit into a report.
pub record FitsCase (c : CaseRows) (x : ChosenStocks) : Type 0 where
  pub are_stocks : AreStocksOf c x.stocks
  pub ordered : x.lower ≤ x.numbers.upper
  pub room : x.numbers.upper < 2 ^ 86
  pub critical : IfSome x.numbers.critical (λ family. family < length (line_units c))

-- There is a vertex of each curve, and the stocks are the stocks of these vertices. They are the plan, under this
-- budget, of any points with these curves.
pub record IsChosen (c : CaseRows) (curves : List (List Point)) (budget : ℕ) (x : ChosenStocks) : Type 0 where
  pub vertices : List Point
  pub is_plan : (families : List (List Point)) → AreCurves families curves
      → IsPlan families budget vertices x.floors.items x.numbers
  pub stocks_are : vectors_at c x.stocks.list ≡ stocks_of vertices
  pub lower_is : x.lower ≡ lo_of vertices
