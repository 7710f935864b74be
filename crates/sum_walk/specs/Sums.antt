-- The sums of several curves.
use Rattle.std.specs.Prelude.{List, [], ◌∷◌}
use Rattle.hull.specs.declared.point.Point.{Point}
use Rattle.hull.specs.Curves.{sums}

-- all sums of one of these points and one point of each list
abbrev pub sums_of_each : List Point → List (List Point) → List Point
sums_of_each points [] = points
sums_of_each points (l ∷ lists) = sums_of_each (sums points l) lists
