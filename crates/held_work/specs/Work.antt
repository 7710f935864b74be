-- The work of the curves of a case that begin at the held stocks.
use Rattle.std.specs.Prelude.{◌≡◌, ℕ, List, All, Result, sum_by}
use Rattle.answers.specs.Counts.{count64}
use Rattle.spares_input.specs.Cases.{CaseRows}
use Rattle.fleet_model.specs.Rows.{line_units}
use Rattle.family_points.specs.Vectors.{limits, vector_of}
use Rattle.family_points.specs.Counts.{limited, tables_between}

-- the count of tables of all families, each over its vectors from the held stocks to the limits
abbrev pub tables_from : CaseRows → List ℕ → ℕ
tables_from c held = sum_by (λ l. tables_between c l (vector_of c l held) (limits c l)) (line_units c)

-- this count, if it is within the limit
abbrev pub held_work_of : CaseRows → List ℕ → Result ℕ ℕ
held_work_of c held = limited (count64 (tables_from c held))

-- nothing is held of any pair
abbrev pub IsNothing : List ℕ → Type 0
IsNothing held = All (λ n. n ≡ 0) held
