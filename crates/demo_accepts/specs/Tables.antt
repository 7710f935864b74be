-- The count of tables for the curves of a case.
use Rattle.std.specs.Prelude.{◌≡◌, ℕ, ◌<◌, ◌≤◌, true, length, sum_by}
use Rattle.spares_input.specs.Rows.{is_line}
use Rattle.spares_input.specs.Frames.{part_at}
use Rattle.spares_input.specs.Cases.{CaseRows}
use Rattle.fleet_model.specs.Rows.{line_units}
use Rattle.family_points.specs.Counts.{tables_of}

-- the tables of all families
abbrev pub all_tables : CaseRows → ℕ
all_tables c = sum_by (tables_of c) (line_units c)

-- each family takes at most `most` tables
abbrev pub HasFewTables : ℕ → CaseRows → Type 0
HasFewTables most c = (l : ℕ) → l < length c.parts → is_line (part_at c.parts l) ≡ true → tables_of c l ≤ most
