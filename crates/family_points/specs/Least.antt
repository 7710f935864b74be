-- The least Lagrangian of a family's points at one price. For given stocks at the depot it is their cost at the price
-- plus the least of each base, so one price needs no curve.
use Rattle.std.specs.Prelude.{◌≡◌, ℕ, ◌+◌, ◌*◌, ◌<◌, ◌≤◌, min, Bool, true, false, List, [], ◌∷◌, map, sum_by}
use Rattle.spares_input.specs.Cases.{IsCase}
use Rattle.fleet_model.specs.Rows.{bases}
use Rattle.family_items.specs.Inputs.{IsLine}
use Rattle.hull.specs.declared.point.Point.{Point}
use Rattle.hull.specs.Curves.{lagrangian, Among}
use Rattle.family_points.specs.Vectors.{vectors}
use Rattle.family_points.specs.Points.{ScoreEnds, AreOrdered}
use Rattle.family_points.specs.Separation.{base_points, depot_point}
use Rattle.family_points.specs.Inputs.{FamilyBox, box_points, high_at, low_at}

-- the least of a number of each point, 0 if there is no point
abbrev pub least : (Point → ℕ) → List Point → ℕ
least f [] = 0
least f (v ∷ []) = f v
least f (v ∷ w ∷ rest) = min (f v) (least f (w ∷ rest))

-- the least of some numbers, 0 if there is none
abbrev pub least_of : List ℕ → ℕ
least_of [] = 0
least_of (n ∷ []) = n
least_of (n ∷ m ∷ rest) = min n (least_of (m ∷ rest))

-- m is the least Lagrangian of the points at the price p/q
pub record IsLeast (p q : ℕ) (points : List Point) (m : ℕ) : Type 0 where
  pub most : (v : Point) → Among v points → m ≤ lagrangian p q v
  pub reached : (v : Point) × Among v points × (lagrangian p q v ≡ m)

-- the Lagrangian of each of the points reaches the floor at the price p/q
abbrev pub AreAtLeast : ℕ → ℕ → ℕ → List Point → Type 0
AreAtLeast p q floor points = (v : Point) → Among v points → floor ≤ lagrangian p q v

-- the answer says whether the Lagrangian of each of the points reaches the floor at the price p/q
pub record Decides (p q floor : ℕ) (points : List Point) (answer : Bool) : Type 0 where
  pub yes : answer ≡ true → AreAtLeast p q floor points
  pub no : answer ≡ false → (v : Point) × Among v points × (lagrangian p q v < floor)

-- the least Lagrangian of base j at the price p/q, when the depot has the stocks d
abbrev pub base_least : ScoreEnds → FamilyBox → ℕ → ℕ → List ℕ → ℕ → ℕ
base_least ends x p q d j = least (lagrangian p q) (base_points ends x d j)

-- the cost of the depot's stocks d at the price, plus the least of each base
abbrev pub depot_least : ScoreEnds → FamilyBox → ℕ → ℕ → List ℕ → ℕ
depot_least ends x p q d = p * (depot_point x d).cost + sum_by (base_least ends x p q d) (bases x.case)

-- The least of a box at a price is the least, over the depot's stocks, of their cost at the price plus each base's
-- least.
abbrev pub LeastSeparates : Type 0
LeastSeparates =
    (ends : ScoreEnds) (x : FamilyBox) (p q : ℕ) → IsCase x.case → IsLine x.case x.line
    → AreOrdered x.case x.line x.held x.low x.high
    → least (lagrangian p q) (box_points ends x)
    ≡ least_of (map (depot_least ends x p q) (vectors (low_at x 0) (high_at x 0)))
