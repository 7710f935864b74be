-- The curve of a family so far. No promise of the crate rests on these words.
use Rattle.std.specs.Prelude.{◌≡◌, ℕ, ◌+◌, ◌-◌, min, List, [], Option, None, Some, length}
use Rattle.hull.specs.declared.point.Point.{Point}
use Rattle.hull.specs.Curves.{Among, InRange}
use Rattle.family_points.specs.Inputs.{FamilyBox, IsAt}
use Rattle.family_points.specs.Separation.{depot_point}

-- the vertices of a curve, if there is one
abbrev pub vertices_of : Option (List Point) → List Point
vertices_of None = []
vertices_of (Some curve) = curve

-- the points have a stock for each place of the family
abbrev pub HaveWidthOf : FamilyBox → List Point → Type 0
HaveWidthOf x points = (v : Point) → Among v points → length v.stocks ≡ length x.low

-- the point is that of its stocks at the depot
pub record IsDepotPoint (x : FamilyBox) (p : Point) : Type 0 where
  pub at : IsAt x 0 p.stocks
  pub is : p ≡ depot_point x p.stocks
  pub range : InRange p

-- the least of the first n stocks, in the order from `start` up to high and then from `start` down
abbrev pub run_start : ℕ → ℕ → ℕ → ℕ
run_start start high n = min start (high + 1 - n)
