-- The report of a target from a sweep. A target counts ten-thousandths, and sums count units of 2^-48.
use Rattle.std.specs.Prelude.{◌≡◌, ℕ, ◌+◌, ◌-◌, ◌*◌, ◌/◌, ◌^◌, ◌<◌, ◌≤◌, max, Option, Some, None, List, [], ◌∷◌, length}
use Rattle.std.specs.Int.{div_ceil}
use Rattle.hull.specs.declared.price.Price.{Price}
use Rattle.budget_sweep.specs.declared.report.SweepPoint.{SweepPoint}
use Rattle.budget_sweep.specs.declared.report.TargetReport.{TargetReport}
use Rattle.budget_sweep.specs.Sweep.{state_at, last_state}

-- a target in units of 2^-48, rounded down
abbrev pub units_below : ℕ → ℕ
units_below target = target * 2 ^ 48 / 10000

-- a target in units of 2^-48, rounded up
abbrev pub units_above : ℕ → ℕ
units_above target = div_ceil (target * 2 ^ 48) 10000

-- the first state with an upper end of at most `most` units, or none
abbrev pub IsReach : List SweepPoint → ℕ → Option SweepPoint → Type 0
IsReach points most None = (k : ℕ) → k < length points → most < (state_at points k).hi
IsReach points most (Some reach) =
    (k : ℕ) × (k < length points) × (reach ≡ state_at points k) × (reach.hi ≤ most)
    × ((j : ℕ) → j < k → most < (state_at points j).hi)

-- the cost at the price p/q from a sum and its cost down to a limit, rounded up; 0 if there is no price
abbrev pub cost_floor : ℕ → ℕ → ℕ → Option Price → ℕ
cost_floor limit lo cost None = 0
cost_floor limit lo cost (Some price) = div_ceil (price.q * lo + price.p * cost - price.q * limit) price.p

-- this cost from a state to the limit, at the state's price
abbrev pub floor_at : ℕ → SweepPoint → ℕ
floor_at limit point = cost_floor limit point.lo point.cost point.price

-- the largest such cost over all states
abbrev pub least_cost : ℕ → List SweepPoint → ℕ
least_cost limit [] = 0
least_cost limit (point ∷ points) = max (floor_at limit point) (least_cost limit points)

-- none if the last state is above the limit
abbrev pub IsLeastCost : List SweepPoint → ℕ → Option ℕ → Type 0
IsLeastCost points limit None = limit < (last_state points).lo
IsLeastCost points limit (Some least) = ((last_state points).lo ≤ limit) × (least ≡ least_cost limit points)

-- the report of a target from the states of a sweep
pub record IsTold (points : List SweepPoint) (report : TargetReport) : Type 0 where
  pub reach : IsReach points (units_below report.target.units) report.reach
  pub at_least : IsLeastCost points (units_above report.target.units) report.at_least
