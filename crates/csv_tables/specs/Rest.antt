-- The records that a reader of a table has left.
use Rattle.std.specs.Prelude.{◌≡◌, ◌+◌, ◌≤◌, ℕ, Bool, true, false, List, [], ◌∷◌, length, Option, Some, None}
use Rattle.std.specs.Borrow.{Bor}
use Rattle.csv.specs.Reading.{default_config, is_flexible, reader_config, reader_state, reader_trim, records, records_from, source_of, strip_bom, Ready}
use Rattle.csv.specs.declared.parser.State.{State}
use Rattle.csv.specs.declared.parser.State.TheVariants as st
use Rattle.csv.specs.declared.reader.Reader.{Reader}
use Rattle.csv.specs.declared.reader.Trim.TheVariants as trim

-- a record: the bytes of its fields
abbrev pub Record : Type 0
Record = List (List ℕ)

-- every record of a table's bytes; a byte order mark at the start is not part of them
abbrev pub all_records : List ℕ → List Record
all_records bytes = records default_config (strip_bom bytes)

-- the records in the rest of a reader, in this state
abbrev pub records_left : State → Option (List ℕ) → List Record
records_left s None = []
records_left s (Some bytes) = records_from default_config (length bytes + 1) s bytes

-- the bytes left in a slice
abbrev pub slice_left : Bor (List ℕ) → Option (List ℕ)
slice_left s = Some s.now

-- the records that a reader of a table's bytes has left
abbrev pub rest_of : Reader (Bor (List ℕ)) → List Record
rest_of rdr = records_left (reader_state rdr) (source_of slice_left rdr)

-- a state between records
abbrev pub is_between : State → Bool
is_between st.StartRecord = true
is_between st.AfterCr = true
is_between st.StartField = false
is_between st.InField = false
is_between st.InQuoted = false
is_between st.AfterQuote = false
is_between st.InEscape = false
is_between st.InComment = false

-- the largest table, in bytes
abbrev pub table_limit : ℕ
table_limit = 4194304

-- a reader of a table that has not failed; it takes records of any length
abbrev pub IsTable : Reader (Bor (List ℕ)) → Type 0
IsTable rdr = Ready rdr × (reader_config rdr ≡ default_config) × (reader_trim rdr ≡ trim.None)
    × (is_flexible rdr ≡ true) × (is_between (reader_state rdr) ≡ true)
    × (bytes : List ℕ) × (source_of slice_left rdr ≡ Some bytes) × (length bytes ≤ table_limit)

-- a read took the first of the records left, or there was none
abbrev pub TakesFirst : List Record → Bool → Record → List Record → Type 0
TakesFirst [] found fields rest = found ≡ false
TakesFirst (r ∷ rs) found fields rest = (found ≡ true) × (fields ≡ r) × (rest ≡ rs)
