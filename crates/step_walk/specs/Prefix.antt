-- Prefixes of the steps of curves, in the order in which marginal analysis takes them.
use Rattle.std.specs.Prelude.{◌≡◌, ℕ, ◌+◌, ◌-◌, ◌*◌, ◌<◌, ◌≤◌, ◌⊎◌, List, [], ◌∷◌, length, slice_index, slice_index_or}
use Rattle.hull.specs.declared.point.Point.{Point}
use Rattle.hull.specs.Curves.{Among, InRange, IsChain, point_at}

-- the curve of the family f
abbrev pub curve_at : List (List Point) → ℕ → List Point
curve_at curves f = slice_index_or curves f []

-- the vertex of the family f at the place k of its curve
abbrev pub vertex_at : List (List Point) → ℕ → ℕ → Point
vertex_at curves f k = point_at (curve_at curves f) k

-- the step from a place of a family's curve to the next
pub record HasStep (curves : List (List Point)) (f k : ℕ) : Type 0 where
  pub family : f < length curves
  pub place : k + 1 < length (curve_at curves f)

-- the fall of the lower end from the vertex at k of the family f to the next
abbrev pub fall : List (List Point) → ℕ → ℕ → ℕ
fall curves f k = (vertex_at curves f k).lo - (vertex_at curves f (k + 1)).lo

-- the rise of the cost from the vertex at k of the family f to the next
abbrev pub rise : List (List Point) → ℕ → ℕ → ℕ
rise curves f k = (vertex_at curves f (k + 1)).cost - (vertex_at curves f k).cost

-- the first step comes before the other: it falls more per money, or as much and its family comes first, or its place
-- in the same family
abbrev pub IsBefore : List (List Point) → ℕ → ℕ → ℕ → ℕ → Type 0
IsBefore curves f k g j =
    (fall curves g j * rise curves f k < fall curves f k * rise curves g j)
    ⊎ ((fall curves g j * rise curves f k ≡ fall curves f k * rise curves g j) × ((f < g) ⊎ ((f ≡ g) × (k < j))))

-- the vertices at the picks
abbrev pub picked : List (List Point) → List ℕ → List Point
picked [] picks = []
picked (curve ∷ curves) [] = []
picked (curve ∷ curves) (k ∷ picks) = point_at curve k ∷ picked curves picks

-- the picks are one vertex of each curve
pub record AreVertices (curves : List (List Point)) (picks : List ℕ) : Type 0 where
  pub count : length picks ≡ length curves
  pub below : (f : ℕ) → f < length curves → slice_index picks f < length (curve_at curves f)

-- The picks have taken a prefix of all steps in that order: each taken step comes before each other one.
pub record IsPrefix (curves : List (List Point)) (picks : List ℕ) : Type 0 where
  pub vertices : AreVertices curves picks
  pub before : (f k g j : ℕ) → HasStep curves f k → HasStep curves g j → k < slice_index picks f
      → slice_index picks g ≤ j → IsBefore curves f k g j

-- the first step that isn't taken
pub record IsNext (curves : List (List Point)) (picks : List ℕ) (f : ℕ) : Type 0 where
  pub step : HasStep curves f (slice_index picks f)
  pub first : (g j : ℕ) → HasStep curves g j → slice_index picks g ≤ j → ((g ≡ f) × (j ≡ slice_index picks f))
      ⊎ IsBefore curves f (slice_index picks f) g j

-- no step is left
abbrev pub AllTaken : List (List Point) → List ℕ → Type 0
AllTaken curves picks = (f : ℕ) → f < length curves → slice_index picks f + 1 ≡ length (curve_at curves f)

-- the vertices of a curve: there is one, their steps are a chain, and their numbers are within their limits
pub record IsRangedChain (vertices : List Point) : Type 0 where
  pub some : 0 < length vertices
  pub chain : IsChain vertices
  pub ranges : (v : Point) → Among v vertices → InRange v

-- each list of vertices has the shape of a curve, however many they are
abbrev pub HaveShapes : List (List Point) → Type 0
HaveShapes curves = (f : ℕ) → f < length curves → IsRangedChain (curve_at curves f)
