-- The promises of a plan about all allocations, at each depth.
use Rattle.std.specs.Prelude.{◌≡◌, ℕ, ◌+◌, ◌-◌, ◌*◌, ◌≤◌, List, map}
use Rattle.hull.specs.declared.point.Point.{Point}
use Rattle.marginal_alloc.specs.declared.plans.PlanNumbers.{PlanNumbers}
use Rattle.price_bounds.specs.Values.{IsAtMost}
use Rattle.price_bounds.specs.Allocations.{Family, points_of, AreEnclosed, IsFamilyAllocation, cost_at, total_at}
use Rattle.price_bounds.specs.Soundness.{stocks_of, NoneHasFewerThan, NoPriceGivesMoreThan, NoCertificateHasMoreThan}
use Rattle.marginal_alloc.specs.Plans.{IsPlan}

-- The promises of a plan's stocks and numbers.
pub record IsSoundPlan (families : List Family) (budget : ℕ) (stocks : List (List ℕ)) (numbers : PlanNumbers) :
    Type 0 where
  pub allocation : IsFamilyAllocation families stocks
  pub cost : numbers.cost ≡ cost_at families stocks
  pub fits : numbers.cost ≤ budget
  pub upper : (n : ℕ) → 1024 ≤ n → IsAtMost numbers.upper (total_at n families stocks)
  pub fewer : NoneHasFewerThan numbers.bound families budget
  pub price : NoPriceGivesMoreThan (numbers.bound + numbers.rounding) families budget
  pub certificate : NoCertificateHasMoreThan (numbers.bound + numbers.rounding) families budget
  pub gap : numbers.bound + numbers.gap ≡ numbers.upper
  pub small_gap : numbers.price.q * numbers.gap ≤ numbers.price.p * (budget - numbers.hull_cost) + numbers.price.q
      * numbers.rounding

-- each plan is sound, if the families' intervals enclose their backorders
abbrev pub PlansAreSound : Type 0
PlansAreSound = (families : List Family) (budget : ℕ) (chosen : List Point) (floors : List ℕ) (numbers : PlanNumbers)
    → AreEnclosed families
    → IsPlan (map points_of families) budget chosen floors numbers
    → IsSoundPlan families budget (stocks_of chosen) numbers
