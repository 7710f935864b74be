-- The hull choice: the steps of all curves by falling slope, within the budget.
use Rattle.std.specs.Prelude.{◌≡◌, ℕ, ◌+◌, ◌-◌, ◌<◌, ◌≤◌, Option, Some, None, List, [], ◌∷◌, length, slice_index}
use Rattle.hull.specs.declared.point.Point.{Point}
use Rattle.hull.specs.declared.price.Price.{Price}
use Rattle.hull.specs.Curves.{IsCurve, point_at}
use Rattle.step_walk.specs.Prefix.{AllTaken, HaveShapes, IsNext, IsPrefix, curve_at, fall, picked, rise, vertex_at}
use Rattle.marginal_alloc.specs.declared.allocation.Critical.{Critical}
use Rattle.marginal_alloc.specs.declared.allocation.Chosen.{Chosen}
use Rattle.price_bounds.specs.Sums.{cost_of, width_of}

-- the first vertex of each curve
abbrev pub firsts : List (List Point) → List Point
firsts [] = []
firsts (curve ∷ curves) = point_at curve 0 ∷ firsts curves

-- the choice stops at a critical step that exceeds the budget, or when no step is left
abbrev pub StopsWith : List (List Point) → ℕ → List ℕ → ℕ → Price → Option Critical → Type 0
StopsWith curves budget picks cost price None = AllTaken curves picks × (price.p ≡ 0) × (price.q ≡ 1)
StopsWith curves budget picks cost price (Some c) =
    IsNext curves picks c.family × (c.vertex ≡ slice_index picks c.family + 1)
    × (price.p ≡ fall curves c.family (slice_index picks c.family))
    × (price.q ≡ rise curves c.family (slice_index picks c.family))
    × (budget < cost + rise curves c.family (slice_index picks c.family))

-- The hull choice: the longest prefix of the steps whose cost is within the budget.
pub record IsHullChoice (curves : List (List Point)) (budget : ℕ) (chosen : Chosen) : Type 0 where
  pub prefix : IsPrefix curves chosen.picks
  pub cost_is : chosen.cost ≡ cost_of (picked curves chosen.picks)
  pub fits : chosen.cost ≤ budget
  pub stops : StopsWith curves budget chosen.picks chosen.cost chosen.price chosen.critical

-- each curve is the curve of its family's points
pub record AreCurves (families curves : List (List Point)) : Type 0 where
  pub count : length families ≡ length curves
  pub each : (f : ℕ) → f < length curves → IsCurve (curve_at families f) (curve_at curves f)

-- the widths at the picks, the width at the critical vertex if there is one, and one unit
abbrev pub rounding_at : List (List Point) → List ℕ → Option Critical → ℕ
rounding_at curves picks None = width_of (picked curves picks) + 1
rounding_at curves picks (Some c) = width_of (picked curves picks)
    + ((vertex_at curves c.family c.vertex).hi - (vertex_at curves c.family c.vertex).lo) + 1

-- the most by which another price's bound can be above the bound
abbrev pub rounding_of : List (List Point) → Chosen → ℕ
rounding_of curves chosen = rounding_at curves chosen.picks chosen.critical

-- The curves are the curves of the families' points, and this is their hull choice.
pub record IsChoiceFor (families curves : List (List Point)) (budget : ℕ) (chosen : Chosen) : Type 0 where
  pub areas : AreCurves families curves
  pub shapes : HaveShapes curves
  pub choice : IsHullChoice curves budget chosen
