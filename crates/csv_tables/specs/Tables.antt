-- The rows of a table: a header, and then a row for each further record. A row of the file is a record; the header is
-- row 1.
use Rattle.std.specs.Prelude.{ℕ, ◌+◌, ◌&&◌, nat_le, List, [], ◌∷◌, length, get_or, Option, Some, None, Result, Ok, Err, if◌then◌else◌, bytes_eq, Vec}
use Rattle.std.specs.Global.{Global}
use Rattle.spares_input.specs.First.{first, unless}
use Rattle.csv_tables.specs.Rest.{Record}
use Rattle.answers.specs.Steps.{◌>>=◌}
use Rattle.csv_tables.specs.Fields.{counted, field}
use Rattle.csv_tables.specs.declared.fault.TableFault.{TableFault}
use Rattle.csv_tables.specs.declared.fault.TableFault.TheVariants as fault

-- a column of the header has a wrong name; columns count from 1
abbrev pub column_fault : List (List ℕ) → Record → ℕ → Option TableFault
column_fault header r k = if bytes_eq (field r k) (get_or header k []) then None else Some (fault.Header (k + 1))

-- the number of columns of the header: at least `least`, and no more than the table has
abbrev pub header_in : ℕ → List (List ℕ) → Record → Result ℕ TableFault
header_in least header r =
    if nat_le least (length r) && nat_le (length r) (length header)
    then unless (first (column_fault header r) (length r)) (length r)
    else Err (fault.FieldCount 1 (length r))

-- the row of a record with this number of fields
abbrev pub row_with : {A : Type 0} → (ℕ → Record → Result A TableFault) → ℕ → ℕ → Record → Result A TableFault
row_with row_of row columns r = counted row columns r >>= λ _. row_of row r

module _ {A : Type 0} (row_of : ℕ → Record → Result A TableFault) (limit : ℕ) where
  -- the rows of the records from this row of the file on, each with this number of columns; row 2 is the first after
  -- the header
  unfoldable pub rows_from : ℕ → ℕ → List Record → Result (List A) TableFault
  rows_from columns row [] = Ok []
  rows_from columns row (r ∷ rs) =
      if nat_le (limit + 2) row then Err fault.TooManyRows
      else row_with row_of row columns r >>= λ x. rows_from columns (row + 1) rs >>= λ xs. Ok (x ∷ xs)

  -- the rows of all records after the first, which is the header
  abbrev pub table_of : ℕ → List (List ℕ) → List Record → Result (List A) TableFault
  table_of least header [] = Err fault.NoHeader
  table_of least header (h ∷ rs) = header_in least header h >>= λ columns. rows_from columns 2 rs

-- the same result with the rows as a list
abbrev pub rows_of : {A E : Type 0} → Result (Vec A Global) E → Result (List A) E
rows_of (Ok v) = Ok v.items
rows_of (Err e) = Err e
