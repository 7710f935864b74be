-- The points of a family, composed from the depot and each base. At given stocks of the depot, cost and scored total
-- are sums over the bases, and each term depends only on the stocks of its base.
use Rattle.std.specs.Prelude.{◌==◌, ℕ, List, [], ◌∷◌, map, flat_map, if◌then◌else◌}
use Rattle.std.specs.List.{fold}
use Rattle.fleet_model.specs.Rows.{bases}
use Rattle.fleet_model.specs.Fleet.{family}
use Rattle.hull.specs.declared.point.Point.{Point}
use Rattle.hull.specs.Curves.{sums}
use Rattle.family_points.specs.Vectors.{stocks_in, vectors}
use Rattle.family_points.specs.Points.{ScoreEnds, scored, cost_above}
use Rattle.family_points.specs.Inputs.{FamilyBox, held_at, high_at, line_stocks, low_at}

-- the stocks d at the depot and b at base j, and none elsewhere
abbrev pub depot_and_base : List ℕ → ℕ → List ℕ → ℕ → List ℕ
depot_and_base d j b k = if k == 0 then d else if k == j then b else []

-- the stocks d at the depot, with their cost
abbrev pub depot_point : FamilyBox → List ℕ → Point
depot_point x d = record { cost = cost_above x.case (family x.case x.line) (held_at x 0) d; lo = 0; hi = 0; stocks = d }

-- the stocks by pair, with d at the depot and b at base j, and none elsewhere
abbrev pub base_stocks : FamilyBox → List ℕ → ℕ → List ℕ → List ℕ
base_stocks x d j b = stocks_in x.case x.line (depot_and_base d j b)

-- the point of the stocks b at base j, if the depot has the stocks d
abbrev pub base_point : ScoreEnds → FamilyBox → List ℕ → ℕ → List ℕ → Point
base_point ends x d j b = record {
  cost = cost_above x.case (family x.case x.line) (held_at x j) b;
  lo = (scored x.case x.line ends (base_stocks x d j b) j).lo;
  hi = (scored x.case x.line ends (base_stocks x d j b) j).hi;
  stocks = b;
}

-- the points of base j from its least stocks to its most
abbrev pub base_points : ScoreEnds → FamilyBox → List ℕ → ℕ → List Point
base_points ends x d j = map (base_point ends x d j) (vectors (low_at x j) (high_at x j))

-- the points with the stocks d at the depot: all sums of one point of each of these bases
abbrev pub points_over : ScoreEnds → FamilyBox → List ℕ → List ℕ → List Point
points_over ends x d js = fold (λ points j. sums points (base_points ends x d j)) (depot_point x d ∷ []) js

-- the same for all bases
abbrev pub depot_points : ScoreEnds → FamilyBox → List ℕ → List Point
depot_points ends x d = points_over ends x d (bases x.case)

-- these points for all stocks of the depot at which the shop units have the stocks `shops`
abbrev pub shop_points : ScoreEnds → FamilyBox → List ℕ → List Point
shop_points ends x shops = flat_map (λ s. depot_points ends x (s ∷ shops)) (line_stocks x 0)

-- these points for each choice of stocks at the depot
abbrev pub separated : ScoreEnds → FamilyBox → List Point
separated ends x = flat_map (depot_points ends x) (vectors (low_at x 0) (high_at x 0))
