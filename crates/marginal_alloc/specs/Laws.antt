-- The laws of a hull choice.
use Rattle.std.specs.Prelude.{◌≡◌, ℕ, List, Some}
use Rattle.hull.specs.declared.point.Point.{Point}
use Rattle.hull.specs.Curves.{IsLeastAt}
use Rattle.marginal_alloc.specs.declared.allocation.Critical.{Critical}
use Rattle.marginal_alloc.specs.declared.allocation.Chosen.{Chosen}
use Rattle.price_bounds.specs.Sums.{AllLeast}
use Rattle.step_walk.specs.Prefix.{curve_at, vertex_at, picked, HaveShapes}
use Rattle.marginal_alloc.specs.Choice.{IsHullChoice, IsChoiceFor}

-- Each pick is least at the price, among all points of its family.
abbrev pub PicksAreLeast : Type 0
PicksAreLeast = (families curves : List (List Point)) (budget : ℕ) (chosen : Chosen)
    → IsChoiceFor families curves budget chosen
    → AllLeast chosen.price.p chosen.price.q families (picked curves chosen.picks)

-- The vertex that the critical step would reach also is least.
abbrev pub CriticalIsLeast : Type 0
CriticalIsLeast = (families curves : List (List Point)) (budget : ℕ) (chosen : Chosen) (c : Critical)
    → IsChoiceFor families curves budget chosen → chosen.critical ≡ Some c
    → IsLeastAt chosen.price.p chosen.price.q (curve_at families c.family) (vertex_at curves c.family c.vertex)

-- Curves have only one hull choice under a budget.
abbrev pub ChoicesAreOne : Type 0
ChoicesAreOne = (curves : List (List Point)) (budget : ℕ) (one other : Chosen) → HaveShapes curves
    → IsHullChoice curves budget one → IsHullChoice curves budget other → one ≡ other
