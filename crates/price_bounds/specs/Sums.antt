-- Choices of one point for each family, at a price and under a budget.
use Rattle.std.specs.Prelude.{ℕ, ◌+◌, ◌-◌, ◌*◌, ◌/◌, ◌≤◌, List, [], ◌∷◌}
use Rattle.hull.specs.declared.point.Point.{Point}
use Rattle.hull.specs.Curves.{Among, IsLeastAt}

-- the sum of a number of each point
abbrev pub total : (Point → ℕ) → List Point → ℕ
total f [] = 0
total f (v ∷ vs) = f v + total f vs

-- the total cost of points
abbrev pub cost_of : List Point → ℕ
cost_of vs = total (λ v. v.cost) vs

-- the sum of the lower ends of points
abbrev pub lo_of : List Point → ℕ
lo_of vs = total (λ v. v.lo) vs

-- the sum of the upper ends of points
abbrev pub hi_of : List Point → ℕ
hi_of vs = total (λ v. v.hi) vs

-- the sum of the widths of the intervals
abbrev pub width_of : List Point → ℕ
width_of vs = total (λ v. v.hi - v.lo) vs

-- one point of each family
abbrev pub Picks : List (List Point) → List Point → Type 0
Picks [] [] = Unit {0}
Picks [] (v ∷ vs) = ⊥
Picks (points ∷ families) [] = ⊥
Picks (points ∷ families) (v ∷ vs) = Among v points × Picks families vs

-- each point has the least Lagrangian of its family at p/q
abbrev pub AllLeast : ℕ → ℕ → List (List Point) → List Point → Type 0
AllLeast p q [] [] = Unit {0}
AllLeast p q [] (v ∷ vs) = ⊥
AllLeast p q (points ∷ families) [] = ⊥
AllLeast p q (points ∷ families) (v ∷ vs) = IsLeastAt p q points v × AllLeast p q families vs

-- the bound by the sum of the floors: rounded down, and cut at 0
abbrev pub bound_of : ℕ → ℕ → ℕ → ℕ → ℕ
bound_of p q floors budget = (floors - p * budget) / q

-- at b per unit of the upper end and a per unit of money, the choice costs no more than the sum and the budget
abbrev pub IsWithin : ℕ → ℕ → ℕ → ℕ → List Point → Type 0
IsWithin a b sum budget vs = b * hi_of vs + a * cost_of vs ≤ b * sum + a * budget
