-- Lines of fields, and files of lines.
use Rattle.std.specs.Prelude.{◌≡◌, ℕ, suc, ◌-◌, take, Bool, true, ◌==◌, List, [], ◌∷◌, ◌++◌, length, Option, Some, None, option_map, Result, Ok, Err, if◌then◌else◌}
use Rattle.std.specs.List.{slice_split, join_with_byte, concat}
use Rattle.line_text.specs.Formats.{Token, Text, Format, ◌>>-◌, accepted, read_all}

-- ---- a line is fields with commas between them, and a line feed

-- the byte between two fields
abbrev pub comma : ℕ → Bool
comma b = b == 44

-- the bytes before the line feed at the end
abbrev pub unended : Token → Option Token
unended [] = None
unended (b ∷ []) = if b == 10 then Some [] else None
unended (b ∷ c ∷ rest) = option_map (λ t. b ∷ t) (unended (c ∷ rest))

-- the fields of a format as one line, which reads only with its line feed and with no field left over
abbrev pub line : {A : Type 0} → Format A → Text A
line fields = record {
  print = λ a. join_with_byte 44 (fields.print a) ++ 10 ∷ [];
  read = λ l. unended l >>- λ t. accepted (read_all fields (slice_split comma t));
  fits = fields.fits;
}

-- ---- a file is lines

-- b as the first byte of the first line, or as a new line if there is none
abbrev pub onto_line : ℕ → List Token → List Token
onto_line b [] = (b ∷ []) ∷ []
onto_line b (l ∷ ls) = (b ∷ l) ∷ ls

-- each line with its line feed; the last may have none
unfoldable pub lines_of : List ℕ → List Token
lines_of [] = []
lines_of (b ∷ bs) = if b == 10 then (10 ∷ []) ∷ lines_of bs else onto_line b (lines_of bs)

-- the bytes of a value's file
abbrev pub file_text : {A : Type 0} → Format A → A → List ℕ
file_text format a = concat (format.print a)

-- the value of a whole file, or the lines from the first bad one on
abbrev pub file_of : {A : Type 0} → Format A → List ℕ → Result A (List Token)
file_of format bytes = read_all format (lines_of bytes)

-- the number of the line at which left begins, of this number of lines
abbrev pub numbered : {A : Type 0} → ℕ → Result A (List Token) → Result A ℕ
numbered lines (Ok a) = Ok a
numbered lines (Err left) = Err (suc (lines - length left))

-- the value of a whole file, or the number of its first bad line
abbrev pub file_answer : {A : Type 0} → Format A → List ℕ → Result A ℕ
file_answer format bytes = numbered (length (lines_of bytes)) (file_of format bytes)

-- The line after the first `before` lines is the first bad one: some file of the format has the same lines up to there,
-- and none also has that line.
pub record IsFirstBad {A : Type 0} (format : Format A) (bytes : List ℕ) (before : ℕ) : Type 0 where
  pub good : A
  pub fits : format.fits good ≡ true
  pub begins : take before (lines_of (file_text format good)) ≡ take before (lines_of bytes)
  pub no_other : (a : A) → format.fits a ≡ true
      → take (suc before) (lines_of (file_text format a)) ≡ take (suc before) (lines_of bytes) → ⊥
