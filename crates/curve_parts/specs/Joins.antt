-- The part of the points so far and of all sums of a point and one of each of several lists.
use Rattle.std.specs.Prelude.{ℕ, ◌≤◌, List, [], ◌∷◌, ◌++◌}
use Rattle.std.specs.List.{AllZip}
use Rattle.hull.specs.declared.point.Point.{Point}
use Rattle.hull.specs.declared.price.Price.{Price}
use Rattle.hull.specs.Curves.{lagrangian, Among}
use Rattle.sum_walk.specs.Sums.{sums_of_each}
use Rattle.curve_parts.specs.Parts.{IsPartOf, IsPassedOver, StandForBetween}

-- if `old` suffices for points, and the sums of `first` and a vertex of each part for more points, `new` is the part of
-- all these points
abbrev pub Joins : Price → Price → Point → List (List Point) → List Point → List Point → Type 0
Joins low high first parts old new = (points more : List Point) → StandForBetween low high points old
    → StandForBetween low high more (sums_of_each (first ∷ []) parts) → IsPartOf low high (points ++ more) new

-- if the sums of `first` and a vertex of each part suffice for points, `new` is the part of these
abbrev pub Begins : Price → Price → Point → List (List Point) → List Point → Type 0
Begins low high first parts new = (points : List Point)
    → StandForBetween low high points (sums_of_each (first ∷ []) parts) → IsPartOf low high points new

-- each point whose Lagrangians reach at_low and at_high is passed over by one of the vertices
abbrev pub PassesAbove : Price → Price → ℕ → ℕ → List Point → Type 0
PassesAbove low high at_low at_high vertices = (w : Point) → at_low ≤ lagrangian low.p low.q w
    → at_high ≤ lagrangian high.p high.q w → IsPassedOver low high vertices w

-- no point of a list has a smaller Lagrangian at the price than its bound
abbrev pub AreBounds : Price → List (List Point) → List ℕ → Type 0
AreBounds price lists bounds =
    AllZip (λ (l : List Point) bound. (w : Point) → Among w l → bound ≤ lagrangian price.p price.q w) lists bounds
