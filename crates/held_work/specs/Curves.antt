-- The curves of a case's families that begin at the held stocks.
use Rattle.std.specs.Prelude.{◌≡◌, ℕ, List}
use Rattle.hull.specs.declared.point.Point.{Point}
use Rattle.hull.specs.Curves.{Among, IsCurve, point_at}
use Rattle.spares_input.specs.Cases.{CaseRows}
use Rattle.family_points.specs.Vectors.{limits, vector_of, IsBetween}
use Rattle.family_points.specs.Points.{ScoreEnds}
use Rattle.fleet_plan.specs.Families.{family_points}

-- The curve of the family of line unit l, its cost counted above the held stocks: it begins at cost 0, and its vectors
-- are from the held stocks to the limits.
pub record IsFamilyCurve (ends : ScoreEnds) (c : CaseRows) (held : List ℕ) (l : ℕ) (curve : List Point) : Type 0 where
  pub is_curve : IsCurve (family_points ends c held l) curve
  pub free : (point_at curve 0).cost ≡ 0
  pub within : (v : Point) → Among v curve → IsBetween (vector_of c l held) (limits c l) v.stocks
