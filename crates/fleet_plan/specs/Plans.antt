-- The plan of a case under a budget, and the statements that plans and certificates make about the case.
use Rattle.std.specs.Prelude.{◌≡◌, ℕ, ◌+◌, ◌-◌, ◌*◌, ◌<◌, ◌≤◌, List, length, get_or, sum, Option, option_map}
use Rattle.hull.specs.declared.price.Price.{Price}
use Rattle.spares_input.specs.Cases.{CaseRows, frame_rows, pair_count}
use Rattle.fleet_model.specs.Rows.{line_units}
use Rattle.fleet_model.specs.Fleet.{IsAllocation, cost}
use Rattle.fleet_model.specs.Headline.{NoAllocationHasFewer, NoPriceIsHigher, HasAtMost}
use Rattle.family_points.specs.Points.{ScoreEnds}
use Rattle.marginal_alloc.specs.declared.plans.PlanNumbers.{PlanNumbers}
use Rattle.marginal_alloc.specs.Plans.{IsPlan}
use Rattle.price_bounds.specs.Sums.{bound_of}
use Rattle.price_bounds.specs.Certificates.{AreFloors}
use Rattle.fleet_model.specs.Aims.{Value, IsHeldAllocation, cost_beyond}
use Rattle.fleet_model.specs.Bounds.{NoneHasLess, NoPriceShowsMore, HasNoMore}
use Rattle.fleet_plan.specs.Families.{case_points, points_at, hi_at}

-- The contents of a plan: stocks by part and then by site, a floor for each family, and its numbers.
pub record CasePlan : Type 0 where
  pub stocks : List ℕ
  pub floors : List ℕ
  pub numbers : PlanNumbers

-- the line unit of a family
abbrev pub line_of_family : CaseRows → ℕ → ℕ
line_of_family c family = get_or (line_units c) family 0

-- the line unit of a plan's critical step, if there is one
abbrev pub critical_line : CaseRows → CasePlan → Option ℕ
critical_line c p = option_map (line_of_family c) p.numbers.critical

-- The plan is the plan of all families' points from the held stocks to the limits.
pub record IsCasePlan (ends : ScoreEnds) (c : CaseRows) (held : List ℕ) (budget : ℕ) (p : CasePlan) : Type 0 where
  pub count : length p.stocks ≡ pair_count (frame_rows c)
  pub plan : IsPlan (case_points ends c held) budget (points_at ends c held p.stocks) p.floors p.numbers

-- The claims of a certificate: stocks, a price with a floor for each family, an upper end and a bound.
pub record CaseClaims : Type 0 where
  pub stocks : List ℕ
  pub price : Price
  pub floors : List ℕ
  pub upper : ℕ
  pub bound : ℕ

-- the claims of a plan's certificate
abbrev pub plan_claims_of : CasePlan → CaseClaims
plan_claims_of p = record {
  stocks = p.stocks;
  price = p.numbers.price;
  floors = p.floors;
  upper = p.numbers.upper;
  bound = p.numbers.bound;
}

-- The claims follow from the stocks, from floors that lie under each point of their families at the price, and from one
-- another.
pub record AreAcceptable (ends : ScoreEnds) (c : CaseRows) (held : List ℕ) (budget : ℕ) (x : CaseClaims) : Type 0 where
  pub money : 0 < x.price.q
  pub allocation : IsHeldAllocation c held x.stocks
  pub fits : cost_beyond c held x.stocks ≤ budget
  pub floors_are : AreFloors x.price (case_points ends c held) x.floors
  pub upper_is : hi_at ends c x.stocks ≤ x.upper
  pub bound_is : x.bound ≤ bound_of x.price.p x.price.q (sum x.floors) budget

-- Acceptable claims say of the case: the stocks include the held ones and fit the budget, their aim is at most the
-- upper end, and no stocks within the budget have an aim below the bound.
pub record AreTrueClaims (value : Value) (c : CaseRows) (held : List ℕ) (budget : ℕ) (x : CaseClaims) : Type 0 where
  pub allocation : IsHeldAllocation c held x.stocks
  pub fits : cost_beyond c held x.stocks ≤ budget
  pub no_more : HasNoMore value c x.stocks x.upper
  pub none_less : NoneHasLess value c held budget x.bound

-- The statements of a plan about the case.
pub record IsTruePlan (ends : ScoreEnds) (value : Value) (c : CaseRows) (held : List ℕ) (budget : ℕ) (p : CasePlan)
    : Type 0 where
  pub allocation : IsHeldAllocation c held p.stocks
  pub cost_is : p.numbers.cost ≡ cost_beyond c held p.stocks
  pub fits : p.numbers.cost ≤ budget
  pub none_less : NoneHasLess value c held budget p.numbers.bound
  pub no_price : NoPriceShowsMore value c held budget (p.numbers.bound + p.numbers.rounding)
  pub gap : p.numbers.bound + p.numbers.gap ≡ p.numbers.upper
  pub upper_is : p.numbers.upper ≡ hi_at ends c p.stocks
  pub no_more : HasNoMore value c p.stocks p.numbers.upper
  pub small_gap : p.numbers.price.q * p.numbers.gap
      ≤ p.numbers.price.p * (budget - p.numbers.hull_cost) + p.numbers.price.q * p.numbers.rounding
  -- the claims of its certificate are acceptable
  pub certificate : AreAcceptable ends c held budget (plan_claims_of p)
  -- and no acceptable claims for this case and this budget have a bound more than the rounding above its own
  pub no_claims : (x : CaseClaims) → AreAcceptable ends c held budget x
      → x.bound ≤ p.numbers.bound + p.numbers.rounding

-- The same for weighted backorders if nothing is held, in the words of the model alone.
pub record IsPlainPlan (c : CaseRows) (budget : ℕ) (p : CasePlan) : Type 0 where
  pub allocation : IsAllocation c p.stocks
  pub cost_is : p.numbers.cost ≡ cost c p.stocks
  pub fits : cost c p.stocks ≤ budget
  pub fewer : NoAllocationHasFewer c budget p.numbers.bound
  pub no_price : NoPriceIsHigher c budget (p.numbers.bound + p.numbers.rounding)
  pub gap : p.numbers.bound + p.numbers.gap ≡ p.numbers.upper
  pub no_more : HasAtMost c p.stocks p.numbers.upper

-- Such claims say: an allocation within the budget has at most the backorders of the upper end, and no allocation
-- within the budget has fewer than the bound.
pub record ArePlainClaims (c : CaseRows) (budget : ℕ) (x : CaseClaims) : Type 0 where
  pub allocation : IsAllocation c x.stocks
  pub fits : cost c x.stocks ≤ budget
  pub no_more : HasAtMost c x.stocks x.upper
  pub fewer : NoAllocationHasFewer c budget x.bound
