-- What vectors cost above what is held, place by place.
use Rattle.std.specs.Prelude.{ℕ, List, map}
use Rattle.spares_input.specs.Cases.{CaseRows}
use Rattle.family_points.specs.Vectors.{Pair}
use Rattle.family_points.specs.Points.{cost_above}

-- what the stocks v at these places cost above those held there
abbrev pub added_at : CaseRows → List Pair → List ℕ → List ℕ → ℕ
added_at c xs held v = cost_above c (map (λ (x : Pair). x.part) xs) held v
