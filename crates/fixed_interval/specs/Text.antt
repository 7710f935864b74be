-- The text of a number with a fixed count of decimal places.
use Rattle.std.specs.Prelude.{◌≡◌, ℕ, zero, suc, ◌+◌, ◌/◌, ◌%◌, ◌^◌, ◌<◌, ◌++◌, ◌∷◌, [], List, length, slice_index}
use Rattle.std.specs.Fmt.{decimal}
use Rattle.std.specs.Str.Parse.{AllDigits, digits_value}
use Rattle.exact_model.specs.Fraction.{Fraction, whole, ◌/ℚ◌}

-- the last k decimal digits of n, as characters: the digit at place i is `n / 10 ^ i % 10`
unfoldable pub last_digits : ℕ → ℕ → List ℕ
last_digits zero n = []
last_digits (suc k) n = (48 + n / 10 ^ k % 10) ∷ last_digits k n

-- n units of the last of these places: the whole part as `decimal` writes it, a point, and each place
abbrev pub fixed_text : ℕ → ℕ → List ℕ
fixed_text places n = decimal (n / 10 ^ places) ++ (46 ∷ last_digits places n)

-- the value of that text
abbrev pub text_value : ℕ → ℕ → Fraction
text_value places n = whole n /ℚ whole (10 ^ places)

-- the same text as a reader sees it: digits on both sides of one point, as many after it as there are places, no
-- needless 0 in front, and the digits of both sides together write n
pub record IsFixedText (places n : ℕ) (text : List ℕ) : Type 0 where
  pub whole : List ℕ
  pub fraction : List ℕ
  pub parts : text ≡ whole ++ (46 ∷ fraction)
  pub whole_digits : AllDigits 10 whole
  pub fraction_digits : AllDigits 10 fraction
  pub has_whole : 0 < length whole
  pub no_leading_zero : slice_index whole 0 ≡ 48 → length whole ≡ 1
  pub every_place : length fraction ≡ places
  pub same_value : digits_value 10 (whole ++ fraction) ≡ n
