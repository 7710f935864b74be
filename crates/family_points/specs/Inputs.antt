-- The inputs of a family's curve.
use Rattle.std.specs.Prelude.{ℕ, List, get_or, drop, ◌+◌, length, sum_by}
use Rattle.fleet_model.specs.Rows.{bases}
use Rattle.hull.specs.declared.point.Point.{Point}
use Rattle.spares_input.specs.Cases.{CaseRows, IsCase}
use Rattle.demand_rates.specs.RateLists.{RateList}
use Rattle.demand_rates.specs.Rates.{AreRatesOf}
use Rattle.family_items.specs.Inputs.{IsLine}
use Rattle.family_points.specs.Vectors.{between, site_part, vectors, IsBetween}
use Rattle.family_points.specs.Points.{ScoreEnds, points_within, AreOrdered}

-- a family of a case, with the stocks held and the bounds of its vectors
pub record FamilyBox : Type 0 where
  pub case : CaseRows
  pub rates : RateList
  pub line : ℕ
  pub held : List ℕ
  pub low : List ℕ
  pub high : List ℕ

-- the rates are those of the case, and the bounds are in order
pub record IsFamilyBox (x : FamilyBox) : Type 0 where
  pub valid : IsCase x.case
  pub are_rates : AreRatesOf x.case x.rates
  pub is_line : IsLine x.case x.line
  pub ordered : AreOrdered x.case x.line x.held x.low x.high

-- the points of all its vectors
abbrev pub box_points : ScoreEnds → FamilyBox → List Point
box_points ends x = points_within x.case x.line ends x.held x.low x.high

-- the least stock of each place of site k
abbrev pub low_at : FamilyBox → ℕ → List ℕ
low_at x k = site_part x.case x.line x.low k

-- the most stock of each place of site k
abbrev pub high_at : FamilyBox → ℕ → List ℕ
high_at x k = site_part x.case x.line x.high k

-- the stocks held at site k
abbrev pub held_at : FamilyBox → ℕ → List ℕ
held_at x k = site_part x.case x.line x.held k

-- these stocks are within the bounds of site k
abbrev pub IsAt : FamilyBox → ℕ → List ℕ → Type 0
IsAt x k v = IsBetween (low_at x k) (high_at x k) v

-- the least stock of the line unit at site k
abbrev pub line_low : FamilyBox → ℕ → ℕ
line_low x k = get_or (low_at x k) 0 0

-- the most stock of the line unit at site k
abbrev pub line_high : FamilyBox → ℕ → ℕ
line_high x k = get_or (high_at x k) 0 0

-- all stocks that the line unit may have at site k
abbrev pub line_stocks : FamilyBox → ℕ → List ℕ
line_stocks x k = between (line_low x k) (line_high x k)

-- the least stock of each of its shop units at site k
abbrev pub shop_low : FamilyBox → ℕ → List ℕ
shop_low x k = drop 1 (low_at x k)

-- the most stock of each of its shop units at site k
abbrev pub shop_high : FamilyBox → ℕ → List ℕ
shop_high x k = drop 1 (high_at x k)

-- all stocks of its shop units at site k, in the order of a dictionary
abbrev pub shop_vectors : FamilyBox → ℕ → List (List ℕ)
shop_vectors x k = vectors (shop_low x k) (shop_high x k)

-- these stocks of the shop units are within the bounds of site k
abbrev pub AreShopsAt : FamilyBox → ℕ → List ℕ → Type 0
AreShopsAt x k v = IsBetween (shop_low x k) (shop_high x k) v

-- the number of vectors of site k
abbrev pub vector_count : FamilyBox → ℕ → ℕ
vector_count x k = length (vectors (low_at x k) (high_at x k))

-- the most vertices of the bases together at one vector of the depot
abbrev pub vertex_count : FamilyBox → ℕ
vertex_count x = 1 + sum_by (vector_count x) (bases x.case)
