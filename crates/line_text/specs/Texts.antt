-- The kinds of fields and lines that files are made of.
use Rattle.std.specs.Prelude.{◌≡◌, ℕ, zero, suc, ◌≤◌, ◌<◌, slice_index, Bool, true, not, ◌&&◌, ◌==◌, nat_le, List, [], ◌∷◌, length, filter, Option, Some, None, option_map, if◌then◌else◌}
use Rattle.std.specs.Fmt.{decimal}
use Rattle.std.specs.Str.Parse.{digits_value}
use Rattle.fixed_interval.specs.Text.{fixed_text}
use Rattle.line_text.specs.Formats.{Token, Text, Format, spelled, one, nothing, and_then, each, as_shape}
use Rattle.line_text.specs.Files.{line}

-- ---- numbers

-- each byte is from 0 to 9
abbrev pub AreDigits : List ℕ → Type 0
AreDigits text = (k : ℕ) → k < length text → (48 ≤ slice_index text k) × (slice_index text k ≤ 57)

-- no needless 0 in front
abbrev pub IsShort : List ℕ → Type 0
IsShort text = (0 < length text) × (slice_index text 0 ≡ 48 → length text ≡ 1)

-- a whole number within a range, with no needless 0 in front
abbrev pub in_range : ℕ → ℕ → ℕ → Bool
in_range least most n = nat_le least n && nat_le n most

-- a whole number within a range in decimal
abbrev pub number : ℕ → ℕ → Text ℕ
number least most = spelled decimal (digits_value 10) (in_range least most)

-- a token without its decimal points
abbrev pub without_point : Token → Token
without_point t = filter (λ b. not (b == 46)) t

-- a number with exactly these places, in units of the last one
abbrev pub fixed : ℕ → ℕ → ℕ → Text ℕ
fixed places least most = spelled (fixed_text places) (λ t. digits_value 10 (without_point t)) (in_range least most)

-- ---- words, and values with no text of their own

-- a text unchanged, if it passes a test
abbrev pub plain : (Token → Bool) → Text Token
plain test = spelled (λ t. t) (λ t. t) test

-- these tokens, which have no value
abbrev pub word : Token → Format (Unit {0})
word w = one (spelled (λ _. w) (λ _. tt) (λ _. true))

-- a value without a field, which must pass the test
abbrev pub no_field : {A : Type 0} → A → (A → Bool) → Format A
no_field a has = as_shape {A = Unit {0}} (nothing tt) (λ _. a) (λ _. tt) has

-- the same with an empty field
abbrev pub empty_field : {A : Type 0} → A → (A → Bool) → Format A
empty_field a has = as_shape (word []) (λ _. a) (λ _. tt) has

-- ---- lines

-- the line of one word
abbrev pub word_line : Token → Format (Unit {0})
word_line w = one (line (word w))

-- the line of a word and a number
abbrev pub count_fields : Token → ℕ → ℕ → Format ℕ
count_fields w least most = as_shape (and_then (word w) (λ _. one (number least most))) (λ x. x.1) (λ n. (tt, n))
    (λ _. true)

-- these fields as a line
abbrev pub count_line : Token → ℕ → ℕ → Format ℕ
count_line w least most = one (line (count_fields w least most))

-- the line of one number alone
abbrev pub number_line : ℕ → Format ℕ
number_line most = one (line (one (number 0 most)))

-- n numbers, from `first` on
abbrev pub numbers_from : ℕ → ℕ → List ℕ
numbers_from first zero = []
numbers_from first (suc n) = first ∷ numbers_from (suc first) n

-- a line with a word and the count of the values, and then each value in the format of its place
abbrev pub counted : {A : Type 0} → Token → ℕ → ℕ → (ℕ → Format A) → Format (List A)
counted w least most format =
    as_shape (and_then (count_line w least most) (λ n. each (numbers_from 0 n) format)) (λ x. x.1)
    (λ xs. (length xs, xs)) (λ _. true)

-- the same if the count is known and each value has a key
abbrev pub one_for_each : {K A : Type 0} → Token → List K → (K → Format A) → Format (List A)
one_for_each w keys format =
    as_shape (and_then (count_line w (length keys) (length keys)) (λ _. each keys format)) (λ x. x.1)
    (λ xs. (length xs, xs)) (λ _. true)

-- ---- choices

-- a value of one of two texts
pub data Either (A B : Type 0) : Type 0 where
  Left : A → Either A B
  Right : B → Either A B

abbrev pub print_either : {A B : Type 0} → Text A → Text B → Either A B → Token
print_either first second (Left a) = first.print a
print_either first second (Right b) = second.print b

abbrev pub fits_either : {A B : Type 0} → Text A → Text B → Either A B → Bool
fits_either first second (Left a) = first.fits a
fits_either first second (Right b) = second.fits b

-- the first text's value if there is one, otherwise the second's
abbrev pub left_or : {A B : Type 0} → Option B → Option A → Option (Either A B)
left_or other (Some a) = Some (Left a)
left_or other None = option_map (λ b. Right b) other

-- a value of either text; a token that both texts read is the first one's
abbrev pub either : {A B : Type 0} → Text A → Text B → Text (Either A B)
either first second = record {
  print = print_either first second;
  read = λ t. left_or (second.read t) (first.read t);
  fits = fits_either first second;
}

-- nothing, or a text, which is never empty
abbrev pub print_any : {A : Type 0} → Text A → Option A → Token
print_any text None = []
print_any text (Some a) = text.print a

abbrev pub fits_any : {A : Type 0} → Text A → Option A → Bool
fits_any text None = true
fits_any text (Some a) = text.fits a

-- an empty token has no value, and any other the text's
abbrev pub read_any : {A : Type 0} → Text A → Token → Option (Option A)
read_any text [] = Some None
read_any text (b ∷ t) = option_map (λ a. Some a) (text.read (b ∷ t))

-- a text that may be missing, written as an empty token
abbrev pub if_any : {A : Type 0} → Text A → Text (Option A)
if_any text = record {
  print = print_any text;
  read = read_any text;
  fits = fits_any text;
}

-- the value, if there is one and it passes a test
abbrev pub kept_by : {A : Type 0} → (A → Bool) → Option A → Option A
kept_by test None = None
kept_by test (Some a) = if test a then Some a else None

-- a text of only those values that pass the test
abbrev pub only : {A : Type 0} → (A → Bool) → Text A → Text A
only test text = record {
  print = text.print;
  read = λ t. kept_by test (text.read t);
  fits = λ a. text.fits a && test a;
}
