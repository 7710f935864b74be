-- The meaning of a decimal number's text: digits with at most one point among them. 46 is '.', 48 is '0' and 57 is '9'.
use Rattle.std.specs.Prelude.{◌≡◌, ◌≢◌, ◌⊎◌, ◌==◌, ℕ, ◌-◌, ◌*◌, ◌/◌, ◌^◌, ◌≤◌, ◌<◌, ◌++◌, List, length, slice_index, slice_set, drop, min, nat_le, nat_lt, Bool, not, if◌then◌else◌, Result, Ok, Err}
use Rattle.std.specs.List.{position_or_len, before_first, after_first, list_any}
use Rattle.std.specs.Char.{is_ascii_digit}
use Rattle.std.specs.Str.Parse.{digits_value}
use Rattle.exact_ratio.specs.declared.decimal.Decimal.{Decimal}
use Rattle.exact_ratio.specs.declared.decimal.NumberFault.{NumberFault}
use Rattle.exact_ratio.specs.declared.decimal.NumberFault.TheVariants.{BadByte, Empty, TooManyPlaces, TooLarge}

-- ---- the parts of a text

-- the index of the first point, or the length if there is none
abbrev pub point_of : List ℕ → ℕ
point_of text = position_or_len (λ c. c == 46) text

-- the bytes before the first point, or the whole text if there is none
abbrev pub whole_of : List ℕ → List ℕ
whole_of text = before_first (λ c. c == 46) text

-- the bytes after the first point, or none
abbrev pub fraction_of : List ℕ → List ℕ
fraction_of text = after_first (λ c. c == 46) text

-- all digits, without the point
abbrev pub digits_of : List ℕ → List ℕ
digits_of text = whole_of text ++ fraction_of text

-- ---- the result of reading a text, as a function of the text

-- the index of the first byte that is no digit, with the first point counted as one, or the length if there is none
abbrev pub bad_place : List ℕ → ℕ
bad_place text = position_or_len (λ c. not (is_ascii_digit c)) (slice_set text (point_of text) 48)

-- whether a digit past these places isn't 0
abbrev pub is_longer_than : List ℕ → ℕ → Bool
is_longer_than text places = list_any (λ c. not (c == 48)) (drop places (fraction_of text))

-- the text's value times `10 ^ places`. The quotient is exact if all digits past these places are 0
abbrev pub units_of : List ℕ → ℕ → ℕ
units_of text places = digits_value 10 (digits_of text) * 10 ^ places / 10 ^ length (fraction_of text)

-- the first fault in this order, else the number
unfoldable pub decimal_of : List ℕ → ℕ → Result Decimal NumberFault
decimal_of text places =
    if nat_lt (bad_place text) (length text) then Err (BadByte (min (bad_place text) (2 ^ 32 - 1)))
    else (if length (digits_of text) == 0 then Err Empty
    else (if is_longer_than text places then Err TooManyPlaces
    else (if nat_le (2 ^ 64) (units_of text places) then Err TooLarge
    else Ok (record { units = units_of text places; places = places }))))

-- ---- the same as a reader sees it, place by place

-- a byte from 0 to 9
abbrev pub IsDigit : ℕ → Type 0
IsDigit c = (48 ≤ c) × (c ≤ 57)

-- the byte at k is a digit or the first point
abbrev pub MayStand : List ℕ → ℕ → Type 0
MayStand text k = IsDigit (slice_index text k) ⊎ (k ≡ point_of text)

-- each byte is a digit or the first point
abbrev pub IsClean : List ℕ → Type 0
IsClean text = (k : ℕ) → k < length text → MayStand text k

-- the first byte that is neither a digit nor the first point
pub record FirstBad (text : List ℕ) (k : ℕ) : Type 0 where
  pub inside : k < length text
  pub no_digit : ¬ (IsDigit (slice_index text k))
  pub no_point : k ≢ point_of text
  pub before : (j : ℕ) → j < k → MayStand text j

-- a digit past these places that isn't 0, or none
abbrev pub HasLateDigit : List ℕ → ℕ → Type 0
HasLateDigit fraction places = (k : ℕ) × (places ≤ k) × (k < length fraction) × (slice_index fraction k ≢ 48)

-- every digit past these places is 0
abbrev pub HasNoLateDigit : List ℕ → ℕ → Type 0
HasNoLateDigit fraction places = (k : ℕ) → places ≤ k → k < length fraction → slice_index fraction k ≡ 48

-- the text is a number that these places hold
pub record IsNumber (text : List ℕ) (places : ℕ) : Type 0 where
  pub clean : IsClean text
  pub has_digit : 0 < length (digits_of text)
  pub no_late_digit : HasNoLateDigit (fraction_of text) places

-- The text's value is the number that all its digits write, over `10 ^ length (fraction_of text)`. `units` is the value
-- times `10 ^ places` if IsValue holds; that product is above `2 ^ 64 - 1` if IsOver holds.
abbrev pub IsValue : List ℕ → ℕ → ℕ → Type 0
IsValue text places units = units * 10 ^ length (fraction_of text) ≡ digits_value 10 (digits_of text) * 10 ^ places

-- the value in units of these places is 2^64 or more
abbrev pub IsOver : List ℕ → ℕ → Type 0
IsOver text places = 2 ^ 64 * 10 ^ length (fraction_of text) ≤ digits_value 10 (digits_of text) * 10 ^ places

-- the result of reading a text with these places
abbrev pub ReadsDecimal : List ℕ → ℕ → Result Decimal NumberFault → Type 0
ReadsDecimal text places (Err (BadByte at)) = (k : ℕ) × FirstBad text k × (at ≡ min k (2 ^ 32 - 1))
ReadsDecimal text places (Err Empty) = IsClean text × (length (digits_of text) ≡ 0)
ReadsDecimal text places (Err TooManyPlaces) =
    IsClean text × (0 < length (digits_of text)) × HasLateDigit (fraction_of text) places
ReadsDecimal text places (Err TooLarge) = IsNumber text places × IsOver text places
ReadsDecimal text places (Ok d) =
    IsNumber text places × (d.places ≡ places) × (d.units < 2 ^ 64) × IsValue text places d.units
