-- Points that lie under others at each price.
use Rattle.std.specs.Prelude.{ℕ, ◌<◌, ◌≤◌, List}
use Rattle.hull.specs.declared.point.Point.{Point}
use Rattle.hull.specs.Curves.{Among, lagrangian}

-- at each price one of `lows` is no higher than each of the points
abbrev pub LieUnder : List Point → List Point → Type 0
LieUnder lows points = (p q : ℕ) → 0 < p → 0 < q → (v : Point) → Among v points
    → (w : Point) × Among w lows × (lagrangian p q w ≤ lagrangian p q v)

-- at each price one of `lows` is lower than each of the points
abbrev pub LieBelow : List Point → List Point → Type 0
LieBelow lows points = (p q : ℕ) → 0 < p → 0 < q → (v : Point) → Among v points
    → (w : Point) × Among w lows × (lagrangian p q w < lagrangian p q v)
