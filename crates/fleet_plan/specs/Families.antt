-- The families of a case as a choice of points sees them: each has the vectors from the held stocks to the limits, with
-- the cost of the stocks above the held ones, the ends of the scored total, and the aim of the model.
use Rattle.std.specs.Prelude.{◌≡◌, ℕ, List, length, map, sum_by}
use Rattle.hull.specs.declared.point.Point.{Point}
use Rattle.spares_input.specs.Cases.{CaseRows}
use Rattle.fleet_model.specs.Rows.{line_units}
use Rattle.family_points.specs.Vectors.{places, vector_of, limits, vectors, stocks_with}
use Rattle.family_points.specs.Points.{ScoreEnds, scored_total, added_cost, point_at_vector, points_within}
use Rattle.price_bounds.specs.Allocations.{Family}
use Rattle.fleet_model.specs.Aims.{Value, family_aim}

-- the family of line unit l: its vectors with their costs, the ends of their totals, and their aims
abbrev pub family_at : ScoreEnds → Value → CaseRows → List ℕ → ℕ → Family
family_at ends value c held l = record {
  vectors = vectors (vector_of c l held) (limits c l);
  cost = added_cost c l (vector_of c l held);
  lo = λ v. (scored_total c l ends (stocks_with c l v)).lo;
  hi = λ v. (scored_total c l ends (stocks_with c l v)).hi;
  backorders = λ n v. family_aim value c (stocks_with c l v) n l;
}

-- the families of all line units of the case
abbrev pub families_at : ScoreEnds → Value → CaseRows → List ℕ → List Family
families_at ends value c held = map (family_at ends value c held) (line_units c)

-- the points of these families, which depend on no value
abbrev pub family_points : ScoreEnds → CaseRows → List ℕ → ℕ → List Point
family_points ends c held l = points_within c l ends (vector_of c l held) (vector_of c l held) (limits c l)

-- the points of each family of the case
abbrev pub case_points : ScoreEnds → CaseRows → List ℕ → List (List Point)
case_points ends c held = map (family_points ends c held) (line_units c)

-- a vector has a number for each place of the family
abbrev pub HasWidth : CaseRows → ℕ → List ℕ → Type 0
HasWidth c l v = length v ≡ length (places c l)

-- the vectors of all families at the stocks s
abbrev pub vectors_at : CaseRows → List ℕ → List (List ℕ)
vectors_at c s = map (λ l. vector_of c l s) (line_units c)

-- the point of each family at the stocks s
abbrev pub points_at : ScoreEnds → CaseRows → List ℕ → List ℕ → List Point
points_at ends c held s = map (λ l. point_at_vector c l ends (vector_of c l held) (vector_of c l s)) (line_units c)

-- the sum of the upper ends of all scored totals at the stocks s
abbrev pub hi_at : ScoreEnds → CaseRows → List ℕ → ℕ
hi_at ends c s = sum_by (λ l. (scored_total c l ends s).hi) (line_units c)
