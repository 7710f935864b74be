-- The part of a family's curve so far, and the order of the stocks at the depot. No promise of the crate rests on these
-- words.
use Rattle.std.specs.Prelude.{ℕ, ◌+◌, ◌-◌, nat_le, List, ◌∷◌, ◌++◌, if◌then◌else◌}
use Rattle.hull.specs.declared.point.Point.{Point}
use Rattle.hull.specs.declared.price.Price.{Price}
use Rattle.curve_parts.specs.Beyond.{IsKnownPart}
use Rattle.family_points.specs.Inputs.{FamilyBox, line_high, line_low}
use Rattle.family_points.specs.Points.{ScoreEnds}
use Rattle.family_points.specs.Separation.{depot_points}

-- if `old` is the part of some points, and all vertices behind it lie as high as `before`, `new` is the part of these
-- and of `more`, and all vertices behind it lie as high as `after`
abbrev pub Grows : Price → Price → List Point → List Point → ℕ → List Point → ℕ → Type 0
Grows low high more old before new after = (points : List Point) → IsKnownPart low high points old before
    → IsKnownPart low high (points ++ more) new after

-- the n-th of the numbers 0 to last, in the order from first up to last and then from the one before first down
abbrev pub in_turn : ℕ → ℕ → ℕ → ℕ
in_turn first last n = if nat_le (first + n) last then first + n else last - n

-- the points of all vectors whose shop units have the stocks `shops` at the depot, and the line unit its k-th stock
-- in turn from the first one on
abbrev pub turn_points : ScoreEnds → FamilyBox → List ℕ → ℕ → ℕ → List Point
turn_points ends x shops first k =
    depot_points ends x ((line_low x 0 + in_turn first (line_high x 0 - line_low x 0) k) ∷ shops)
