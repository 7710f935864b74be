-- The points of a family: each vector with its cost and the ends of its scored total.
use Rattle.std.specs.Prelude.{◌≡◌, ℕ, ◌+◌, ◌-◌, ◌*◌, ◌≤◌, List, [], ◌∷◌, map, length}
use Rattle.std.specs.List.{AllZip}
use Rattle.fixed_interval.specs.Ends.{Ends, ends_exact, ends_times}
use Rattle.depot_pipeline.specs.Profile.{added}
use Rattle.spares_input.specs.Frames.{part_at}
use Rattle.spares_input.specs.Cases.{CaseRows}
use Rattle.fleet_model.specs.Rows.{systems, per_system, weight}
use Rattle.family_items.specs.Profile.{item_of}
use Rattle.hull.specs.declared.point.Point.{Point}
use Rattle.hull.specs.Curves.{Among}
use Rattle.family_points.specs.Vectors.{Pair, places, limits, stocks_with, vectors}

-- a score: the interval for a base's systems, the units per system, the weight, and an interval of backorders
abbrev pub ScoreEnds : Type 0
ScoreEnds = ℕ → ℕ → ℕ → Ends → Ends

-- the plain score: the weight times the backorders
abbrev pub plain_ends : ScoreEnds
plain_ends systems per_system weight backorders = ends_times backorders weight

-- the score of the line unit l at base j, at the stocks s of the case
abbrev pub scored : CaseRows → ℕ → ScoreEnds → List ℕ → ℕ → Ends
scored c l ends s j = ends (systems c j) (per_system c l) (weight c l) (item_of 48 c s l j).backorders

-- the sum of these scores over the bases, from the first on
abbrev pub scored_total : CaseRows → ℕ → ScoreEnds → List ℕ → Ends
scored_total c l ends s = added (ends_exact 48 0) (λ j. scored c l ends s (j + 1)) (length c.sites - 1)

-- the cost of the stocks v of these parts, as far as they exceed the stocks held
abbrev pub cost_above : CaseRows → List ℕ → List ℕ → List ℕ → ℕ
cost_above c [] held v = 0
cost_above c (p ∷ ps) [] v = 0
cost_above c (p ∷ ps) (h ∷ held) [] = 0
cost_above c (p ∷ ps) (h ∷ held) (s ∷ v) = (s - h) * (part_at c.parts p).cost + cost_above c ps held v

-- the cost of a vector of a family
abbrev pub added_cost : CaseRows → ℕ → List ℕ → List ℕ → ℕ
added_cost c l held v = cost_above c (map (λ (x : Pair). x.part) (places c l)) held v

-- the point of a vector: its cost above the stocks held, the ends of its scored total, and its stocks
abbrev pub point_at_vector : CaseRows → ℕ → ScoreEnds → List ℕ → List ℕ → Point
point_at_vector c l ends held v = record {
  cost = added_cost c l held v;
  lo = (scored_total c l ends (stocks_with c l v)).lo;
  hi = (scored_total c l ends (stocks_with c l v)).hi;
  stocks = v;
}

-- the points of all vectors from low to high
abbrev pub points_within : CaseRows → ℕ → ScoreEnds → List ℕ → List ℕ → List ℕ → List Point
points_within c l ends held low high = map (point_at_vector c l ends held) (vectors low high)

-- held is at most least, least at most most, and most within the limits
pub record AreOrdered (c : CaseRows) (l : ℕ) (held low high : List ℕ) : Type 0 where
  pub held_least : AllZip (λ x y. x ≤ y) held low
  pub low_least : AllZip (λ x y. x ≤ y) low high
  pub within : AllZip (λ x y. x ≤ y) high (limits c l)

-- one of the points has this upper end
abbrev pub HasUpper : List Point → ℕ → Type 0
HasUpper points hi = (v : Point) × Among v points × (v.hi ≡ hi)
