-- The plan of the points of families under a budget.
use Rattle.std.specs.Prelude.{◌≡◌, ℕ, ◌-◌, List, option_map, sum}
use Rattle.hull.specs.declared.point.Point.{Point}
use Rattle.marginal_alloc.specs.declared.allocation.Chosen.{Chosen}
use Rattle.marginal_alloc.specs.declared.plans.PlanNumbers.{PlanNumbers}
use Rattle.price_bounds.specs.Sums.{cost_of, hi_of, bound_of}
use Rattle.step_walk.specs.Prefix.{picked}
use Rattle.marginal_alloc.specs.Choice.{IsChoiceFor, rounding_of}
use Rattle.marginal_alloc.specs.Filling.{Fills}
use Rattle.price_bounds.specs.Certificates.{AreLeastFloors}

-- The filling of the families' hull choice, and the numbers of both. The floors are the least Lagrangians of all points
-- at the price.
pub record IsPlan (families : List (List Point)) (budget : ℕ) (chosen : List Point) (floors : List ℕ)
    (numbers : PlanNumbers) : Type 0 where
  pub curves : List (List Point)
  pub hull : Chosen
  pub end : List ℕ
  pub choice : IsChoiceFor families curves budget hull
  pub fills : Fills curves budget hull.picks end
  pub chosen_is : chosen ≡ picked curves end
  pub hull_cost : numbers.hull_cost ≡ hull.cost
  pub price : numbers.price ≡ hull.price
  pub cost : numbers.cost ≡ cost_of chosen
  pub upper : numbers.upper ≡ hi_of chosen
  pub floors_are : AreLeastFloors numbers.price families floors
  pub bound : numbers.bound ≡ bound_of numbers.price.p numbers.price.q (sum floors) budget
  pub rounding : numbers.rounding ≡ rounding_of curves hull
  pub gap : numbers.gap ≡ numbers.upper - numbers.bound
  pub critical : numbers.critical ≡ option_map (λ c. c.family) hull.critical
