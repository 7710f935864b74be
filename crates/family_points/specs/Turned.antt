-- The points of a base by the stocks of its shop units first: one table of the line unit serves all its stocks. No
-- promise of the crate rests on these words.
use Rattle.std.specs.Prelude.{ℕ, List, ◌∷◌, map, flat_map}
use Rattle.hull.specs.declared.point.Point.{Point}
use Rattle.family_points.specs.Points.{ScoreEnds}
use Rattle.family_points.specs.Separation.{base_point}
use Rattle.family_points.specs.Inputs.{FamilyBox, line_stocks, shop_vectors}

-- the points of base j, if the depot has the stocks d
abbrev pub turned_points : ScoreEnds → FamilyBox → List ℕ → ℕ → List Point
turned_points ends x d j =
    flat_map (λ shops. map (λ s. base_point ends x d j (s ∷ shops)) (line_stocks x j)) (shop_vectors x j)
