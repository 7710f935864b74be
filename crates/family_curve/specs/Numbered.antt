-- The points of some choices of the shop units' stocks at the depot. No promise of the crate rests on these words.
use Rattle.std.specs.Prelude.{ℕ, List, drop, flat_map, take}
use Rattle.hull.specs.declared.point.Point.{Point}
use Rattle.family_points.specs.Inputs.{FamilyBox, shop_vectors}
use Rattle.family_points.specs.Points.{ScoreEnds}
use Rattle.family_points.specs.Separation.{shop_points}

-- the points of so many choices, from one of a number on
abbrev pub numbered_points : ScoreEnds → FamilyBox → ℕ → ℕ → List Point
numbered_points ends x from count = flat_map (shop_points ends x) (take count (drop from (shop_vectors x 0)))
