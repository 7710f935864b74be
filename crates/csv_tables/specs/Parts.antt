-- The rows of the table of parts.
use Rattle.std.specs.Prelude.{ℕ, Bool, ◌==◌, List, [], ◌∷◌, length, Option, Some, None, is_none, Result, Ok, if◌then◌else◌, codes}
use Rattle.spares_input.specs.declared.rows.PartRow.{PartRow}
use Rattle.spares_input.specs.Limits.{most_parts, most_stock, most_part_cost}
use Rattle.csv_tables.specs.Rest.{Record, all_records}
use Rattle.answers.specs.Steps.{◌>>=◌}
use Rattle.csv_tables.specs.Fields.{field, has_none, name_in, number_in, used_in}
use Rattle.csv_tables.specs.Tables.{table_of}
use Rattle.csv_tables.specs.declared.fault.TableFault.{TableFault}

-- the name of a shop unit's line unit; a line unit has an empty field
abbrev pub parent_in : ℕ → ℕ → List ℕ → Result (Option (List ℕ)) TableFault
parent_in row column text = if has_none text then Ok None else name_in row column text >>= λ name. Ok (Some name)

-- the weight of a line unit: 1 if the table has no such column
abbrev pub weight_in : Bool → ℕ → Record → Result ℕ TableFault
weight_in line row r =
    if length r == 7 then used_in line row 7 0 1 100 (field r 6) else Ok (if line then 1 else 0)

-- the part of a record
unfoldable pub part_of : ℕ → Record → Result PartRow TableFault
part_of row r = do
  name ← name_in row 1 (field r 0)
  parent ← parent_in row 2 (field r 1)
  cost ← number_in row 3 0 1 most_part_cost (field r 2)
  per_system ← used_in (is_none parent) row 4 0 1 100 (field r 3)
  max_depot ← number_in row 5 0 0 most_stock (field r 4)
  max_base ← number_in row 6 0 0 most_stock (field r 5)
  weight ← weight_in (is_none parent) row r
  Ok (record {
    name = name;
    parent = parent;
    cost = cost;
    per_system = per_system;
    max_depot = max_depot;
    max_base = max_base;
    weight = weight;
  })

-- the columns of the table of parts; the last may be missing
abbrev pub parts_header : List (List ℕ)
parts_header =
    codes "part" ∷ codes "parent" ∷ codes "cost" ∷ codes "per_system" ∷ codes "max_depot" ∷ codes "max_base"
    ∷ codes "weight" ∷ []

-- the rows of a table of parts, with or without weights, or its first fault
abbrev pub parts_of : List ℕ → Result (List PartRow) TableFault
parts_of bytes = table_of part_of most_parts 6 parts_header (all_records bytes)
