-- The parts that make up a plan of curves.
use Rattle.std.specs.Prelude.{ℕ, zero, suc, ◌+◌, ◌-◌, ◌<◌, ◌≤◌, ◌⊎◌, List, [], ◌∷◌, ◌++◌, length, slice_index, Option, Some, None}
use Rattle.hull.specs.declared.point.Point.{Point}
use Rattle.hull.specs.declared.price.Price.{Price}
use Rattle.hull.specs.Limits.{most_price_units, most_price_money}
use Rattle.marginal_alloc.specs.declared.allocation.Critical.{Critical}
use Rattle.marginal_alloc.specs.declared.plans.PlanNumbers.{PlanNumbers}
use Rattle.price_bounds.specs.Sums.{cost_of, hi_of}
use Rattle.step_walk.specs.Prefix.{AllTaken, IsPrefix, curve_at, picked, vertex_at}
use Rattle.marginal_alloc.specs.Choice.{firsts}

-- the sum of g over the first i picks
abbrev pub part : (Point → ℕ) → List (List Point) → List ℕ → ℕ → ℕ
part g curves picks zero = 0
part g curves picks (suc i) = part g curves picks i + g (vertex_at curves i (slice_index picks i))

-- g of each of the first i picks
abbrev pub parts : (Point → ℕ) → List (List Point) → List ℕ → ℕ → List ℕ
parts g curves picks zero = []
parts g curves picks (suc i) = parts g curves picks i ++ g (vertex_at curves i (slice_index picks i)) ∷ []

-- the width of the critical vertex, or 0 if there is none
abbrev pub slack : List (List Point) → Option Critical → ℕ
slack curves None = 0
slack curves (Some c) = (vertex_at curves c.family c.vertex).hi - (vertex_at curves c.family c.vertex).lo

-- the critical vertex is a vertex of its curve
abbrev pub IsPlace : List (List Point) → Option Critical → Type 0
IsPlace curves None = Unit {0}
IsPlace curves (Some c) = (c.family < length curves) × (c.vertex < length (curve_at curves c.family))

-- a price small enough to compute a Lagrangian
pub record IsSmallPrice (price : Price) : Type 0 where
  pub p : price.p ≤ most_price_units
  pub q : price.q ≤ most_price_money
  pub positive : 0 < price.q

-- the numbers of a plan, from those of its hull choice and from the points of the filled one
abbrev pub numbers_of : ℕ → Price → ℕ → ℕ → Option ℕ → List Point → PlanNumbers
numbers_of hull_cost price bound rounding critical filled = record {
  hull_cost = hull_cost;
  price = price;
  cost = cost_of filled;
  upper = hi_of filled;
  bound = bound;
  rounding = rounding;
  gap = hi_of filled - bound;
  critical = critical;
}

-- the hull choice of curves under a budget has no critical step: their first vertices exceed it, or no step does
abbrev pub HasNoCritical : List (List Point) → ℕ → Type 0
HasNoCritical curves budget = (budget < cost_of (firsts curves))
    ⊎ ((picks : List ℕ) × IsPrefix curves picks × AllTaken curves picks × (cost_of (picked curves picks) ≤ budget))
