-- The rows of the table of rates, and how rows name the pairs of a frame.
use Rattle.std.specs.Prelude.{◌≡◌, ℕ, ◌==◌, ◌&&◌, not, List, [], ◌∷◌, length, Option, Some, None, Result, Ok, Err, codes, if◌then◌else◌}
use Rattle.std.specs.List.{slice_split}
use Rattle.line_text.specs.Files.{comma}
use Rattle.spares_input.specs.Limits.{most_pairs, most_days}
use Rattle.spares_input.specs.Rows.{is_line}
use Rattle.spares_input.specs.Frames.{FrameRows, part_at, part_names, place_of, site_names}
use Rattle.spares_input.specs.declared.rows.RateRow.{RateRow}
use Rattle.csv_tables.specs.Rest.{Record, all_records}
use Rattle.answers.specs.Steps.{◌>>=◌}
use Rattle.csv_tables.specs.Fields.{field, name_in, number_in, trimmed, used_in}
use Rattle.csv_tables.specs.Tables.{table_of}
use Rattle.csv_tables.specs.declared.fault.TableFault.{TableFault}
use Rattle.csv_tables.specs.declared.fault.TableFault.TheVariants as fault

-- a place that is found, otherwise a fault
abbrev pub found_or : {A : Type 0} → TableFault → Option A → Result A TableFault
found_or fault None = Err fault
found_or fault (Some x) = Ok x

-- the number of the part that a field names
abbrev pub part_in : FrameRows → ℕ → ℕ → List ℕ → Result ℕ TableFault
part_in f row column text = name_in row column text
    >>= λ name. found_or (fault.UnknownPart row) (place_of name (part_names f.parts))

-- the number of the site that a field names
abbrev pub site_in : FrameRows → ℕ → ℕ → List ℕ → Result ℕ TableFault
site_in f row column text = name_in row column text
    >>= λ name. found_or (fault.UnknownSite row) (place_of name (site_names f.sites))

-- the rates of the fields at these places, with 4 decimals, and 2 for days. The pair determines which fields are used;
-- site 0 is the depot
unfoldable pub rate_in : FrameRows → ℕ → (ℕ → List ℕ) → Result RateRow TableFault
rate_in f row at = do
  part ← part_in f row 1 (at 0)
  site ← site_in f row 2 (at 1)
  demand ← used_in (is_line (part_at f.parts part) && not (site == 0)) row 3 4 0 1000000000 (at 2)
  repair_here ← used_in (not (site == 0)) row 4 4 0 10000 (at 3)
  share ← used_in (not (is_line (part_at f.parts part))) row 5 4 0 10000 (at 4)
  repair_days ← number_in row 6 2 0 most_days (at 5)
  Ok (record {
    part = record { 0 = part };
    site = record { 0 = site };
    demand = demand;
    repair_here = repair_here;
    share = share;
    repair_days = repair_days;
  })

-- the rates of a record
abbrev pub rate_of : FrameRows → ℕ → Record → Result RateRow TableFault
rate_of f row r = rate_in f row (field r)

-- the columns of the table of rates
abbrev pub rates_header : List (List ℕ)
rates_header =
    codes "part" ∷ codes "site" ∷ codes "demand" ∷ codes "repair_here" ∷ codes "share" ∷ codes "repair_days" ∷ []

-- the rows of a table of rates, or its first fault
abbrev pub rates_of : FrameRows → List ℕ → Result (List RateRow) TableFault
rates_of f bytes = table_of (rate_of f) most_pairs 6 rates_header (all_records bytes)

-- ---- a single line

-- the fields of a line: its bytes, cut at commas
abbrev pub line_fields : List ℕ → Record
line_fields line = slice_split comma line

-- the first of the fields left is taken, without the blanks at its ends
pub record TakesField (left rest : Record) (field : List ℕ) : Type 0 where
  pub text : List ℕ
  pub first : left ≡ text ∷ rest
  pub trim : field ≡ trimmed text

-- the row, if there is no fault
abbrev pub told : {A : Type 0} → Result A TableFault → Option A
told (Ok x) = Some x
told (Err fault) = None

-- the row of a line for this frame, if it has six fields that obey the rules of a row of rates
abbrev pub rate_line : FrameRows → List ℕ → Option RateRow
rate_line f line = if length (line_fields line) == 6 then told (rate_of f 0 (line_fields line)) else None
