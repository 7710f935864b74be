-- The fields of a record, and their contents.
use Rattle.std.specs.Prelude.{ℕ, Bool, ◌&&◌, ◌||◌, ◌==◌, true, false, nat_le, List, [], ◌∷◌, length, Result, Ok, Err, if◌then◌else◌, unwrap_or}
use Rattle.csv.specs.Records.{field_at}
use Rattle.exact_ratio.specs.Decimal.{decimal_of}
use Rattle.exact_ratio.specs.declared.decimal.Decimal.{Decimal}
use Rattle.exact_ratio.specs.declared.decimal.NumberFault.{NumberFault}
use Rattle.spares_input.specs.Names.{is_name}
use Rattle.csv_tables.specs.Rest.{Record}
use Rattle.csv_tables.specs.declared.fault.TableFault.{TableFault}
use Rattle.csv_tables.specs.declared.fault.TableFault.TheVariants as fault

-- a space or a tab
abbrev pub is_blank : ℕ → Bool
is_blank b = (b == 32) || (b == 9)

-- a text without the blanks in front
unfoldable pub trim_start : List ℕ → List ℕ
trim_start [] = []
trim_start (b ∷ rest) = if is_blank b then trim_start rest else b ∷ rest

-- the text is empty
abbrev pub has_none : List ℕ → Bool
has_none [] = true
has_none (b ∷ rest) = false

-- a text without the blanks at its end
unfoldable pub trim_end : List ℕ → List ℕ
trim_end [] = []
trim_end (b ∷ rest) = if is_blank b && has_none (trim_end rest) then [] else b ∷ trim_end rest

-- a text without the blanks at its ends
abbrev pub trimmed : List ℕ → List ℕ
trimmed text = trim_end (trim_start text)

-- the field at a place, counted from 0, without the blanks at its ends
abbrev pub field : Record → ℕ → List ℕ
field r i = trimmed (unwrap_or (field_at r i) [])

-- the number of columns if the record has as many fields, otherwise `FieldCount`
abbrev pub counted : ℕ → ℕ → Record → Result ℕ TableFault
counted row columns r = if length r == columns then Ok columns else Err (fault.FieldCount row (length r))

-- a field that holds a name
abbrev pub name_in : ℕ → ℕ → List ℕ → Result (List ℕ) TableFault
name_in row column text = if is_name text then Ok text else Err (fault.BadName row column)

-- a field that must be empty, which counts as 0
abbrev pub empty_in : ℕ → ℕ → List ℕ → Result ℕ TableFault
empty_in row column text = if has_none text then Ok 0 else Err (fault.FieldNotEmpty row column)

-- a number from least to most, in units of its last place
abbrev pub within : ℕ → ℕ → ℕ → ℕ → Result Decimal NumberFault → Result ℕ TableFault
within row column least most (Err f) = Err (fault.BadNumber row column f)
within row column least most (Ok d) =
    if nat_le least d.units && nat_le d.units most then Ok d.units else Err (fault.OutOfRange row column)

-- a field that holds a number with this count of decimals
abbrev pub number_in : ℕ → ℕ → ℕ → ℕ → ℕ → List ℕ → Result ℕ TableFault
number_in row column places least most text =
    if has_none text then Err (fault.FieldEmpty row column) else within row column least most (decimal_of text places)

-- a field that holds a number if it is used, and otherwise must be empty
abbrev pub used_in : Bool → ℕ → ℕ → ℕ → ℕ → ℕ → List ℕ → Result ℕ TableFault
used_in used row column places least most text =
    if used then number_in row column places least most text else empty_in row column text
