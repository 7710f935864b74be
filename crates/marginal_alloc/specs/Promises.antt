-- The promises of a plan about the model's values, and when plans are the same.
use Rattle.std.specs.Prelude.{◌≡◌, ℕ, ◌+◌, ◌-◌, ◌*◌, ◌<◌, ◌≤◌, List, length}
use Rattle.exact_model.specs.Fraction.{Fraction, whole, ◌+ℚ◌, ◌*ℚ◌, ◌≤ℚ◌}
use Rattle.hull.specs.declared.point.Point.{Point}
use Rattle.hull.specs.Curves.{Among}
use Rattle.hull.specs.Laws.{StocksTell}
use Rattle.price_bounds.specs.Sums.{cost_of, Picks}
use Rattle.step_walk.specs.Prefix.{curve_at}
use Rattle.marginal_alloc.specs.declared.plans.PlanNumbers.{PlanNumbers}
use Rattle.price_bounds.specs.Values.{sum_of, AllContain, IsAtLeast, IsAtMost}
use Rattle.marginal_alloc.specs.Plans.{IsPlan}
use Rattle.price_bounds.specs.Certificates.{Claims, IsAcceptable}

-- No allocation within the budget has fewer backorders than the bound.
abbrev pub NoAllocationHasFewer : List (List Point) → ℕ → ℕ → Type 0
NoAllocationHasFewer families budget bound = (points : List Point) (values : List Fraction) → Picks families points
    → cost_of points ≤ budget
    → AllContain points values → IsAtLeast bound (sum_of values)

-- The values of each choice are within its points' ends.
abbrev pub AreValues : List (List Point) → (List Point → List Fraction) → Type 0
AreValues families values = (points : List Point) → Picks families points → AllContain points (values points)

-- At this price, backorders and money together are never below the bound and the budget.
abbrev pub IsBoundAt : List (List Point) → (List Point → List Fraction) → ℕ → Fraction → Fraction → Type 0
IsBoundAt families values budget price bound = (points : List Point) → Picks families points
    → bound +ℚ price *ℚ whole budget ≤ℚ sum_of (values points) +ℚ price *ℚ whole (cost_of points)

-- each point's lower end is at most its upper end
abbrev pub AreIntervals : List (List Point) → Type 0
AreIntervals families = (f : ℕ) (v : Point) → Among v (curve_at families f) → v.lo ≤ v.hi

-- No price has a bound above the limit.
abbrev pub NoPriceBoundIsHigher : List (List Point) → ℕ → ℕ → Type 0
NoPriceBoundIsHigher families budget limit = (values : List Point → List Fraction) (price bound : Fraction)
    → AreValues families values
    → IsBoundAt families values budget price bound → IsAtMost limit bound

-- No acceptable certificate has a bound above the limit.
abbrev pub NoCertificateIsHigher : List (List Point) → ℕ → ℕ → Type 0
NoCertificateIsHigher families budget limit = (claims : Claims) → IsAcceptable families budget claims
    → claims.bound ≤ limit

-- The promises of each plan.
pub record PlanPromises (families : List (List Point)) (budget : ℕ) (chosen : List Point) (numbers : PlanNumbers) :
    Type 0 where
  pub within : Picks families chosen
  pub fits : numbers.cost ≤ budget
  pub upper : (values : List Fraction) → AllContain chosen values → IsAtMost numbers.upper (sum_of values)
  pub fewer : NoAllocationHasFewer families budget numbers.bound
  pub higher : NoPriceBoundIsHigher families budget (numbers.bound + numbers.rounding)
  pub certificates : NoCertificateIsHigher families budget (numbers.bound + numbers.rounding)
  pub gap : numbers.bound + numbers.gap ≡ numbers.upper
  pub small : numbers.price.q * numbers.gap ≤ numbers.price.p * (budget - numbers.hull_cost) + numbers.price.q
      * numbers.rounding

-- each plan keeps these promises, if the families' points are intervals in order
abbrev pub PlansKeepTheirPromises : Type 0
PlansKeepTheirPromises = (families : List (List Point)) (budget : ℕ) (chosen : List Point) (floors : List ℕ)
    (numbers : PlanNumbers)
    → AreIntervals families → IsPlan families budget chosen floors numbers → PlanPromises families budget chosen numbers

-- The certificate of a plan is acceptable.
abbrev pub PlansAreAcceptable : Type 0
PlansAreAcceptable = (families : List (List Point)) (budget : ℕ) (chosen : List Point) (floors : List ℕ)
    (numbers : PlanNumbers)
    → IsPlan families budget chosen floors numbers
    → IsAcceptable families budget (record {
      chosen = chosen;
      price = numbers.price;
      floors = floors;
      upper = numbers.upper;
      bound = numbers.bound;
    })

-- In each family, points with the same stocks are equal.
abbrev pub StocksTellAll : List (List Point) → Type 0
StocksTellAll families = (f : ℕ) → f < length families → StocksTell (curve_at families f)

-- two plans are equal in all their numbers
pub record IsSamePlan (one other : List Point) (one_floors other_floors : List ℕ)
    (one_numbers other_numbers : PlanNumbers) : Type 0 where
  pub chosen : one ≡ other
  pub floors : one_floors ≡ other_floors
  pub numbers : one_numbers ≡ other_numbers

-- Such families have only one plan under a budget.
abbrev pub PlansAreOne : Type 0
PlansAreOne = (families : List (List Point)) (budget : ℕ) (chosen other : List Point) (floors other_floors : List ℕ)
    (numbers other_numbers : PlanNumbers) → StocksTellAll families
    → IsPlan families budget chosen floors numbers → IsPlan families budget other other_floors other_numbers
    → IsSamePlan chosen other floors other_floors numbers other_numbers
