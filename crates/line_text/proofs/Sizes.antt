-- How many bytes the texts of formats take at most. Each token counts for its bytes and for one more, a separator where
-- it is a field.
use Rattle.std.proofs.Common.{◌≡◌, ℕ, suc, ◌+◌, ◌*◌, ◌/◌, ◌^◌, ◌≤◌, Bool, true, false, cond, ◌&&◌, List, [], ◌∷◌, ◌++◌, length, Option, Some, None, arith, length-append}
use Rattle.std.specs.Prelude.{nat_le, nat_lt}
use Rattle.std.specs.Fmt.{decimal}
use Rattle.std.specs.List.{AllByRecursion, join_with_byte, concat}
use Rattle.std.proofs.Math.Nat.{div-le_self}
use Rattle.std.proofs.lemmas.Bool.{and_parts, leb-true, ltb-true}
use Rattle.std.proofs.lemmas.Fmt.{length-decimal-le_wide}
use Rattle.std.proofs.lemmas.Nat.{mul-le}
use Rattle.fixed_interval.specs.Text.{fixed_text, last_digits}
use Rattle.fixed_interval.proofs.Public.{length_last_digits}
use Rattle.line_text.specs.Formats.{Token, Text, Format, one, each_after}
use Rattle.line_text.specs.Texts.{in_range, number, fixed, plain, word, no_field, empty_field, number_line, count_line, numbers_from, counted, one_for_each, Either, Left, Right, either, if_any}
use Rattle.list_laws.proofs.Public.{all_are}

-- the bytes of tokens in turn, each with what stands between it and the next
unfoldable pub width : List Token → ℕ
width [] = 0
width (t ∷ ts) = suc (length t) + width ts

-- these tokens have at most n bytes, if their value fits
pub record Takes (n : ℕ) (fits : Bool) (tokens : List Token) : Type 0 where
  pub bytes : fits ≡ true → width tokens ≤ n

-- the text of this value takes at most n bytes, if the value fits the format
abbrev pub TakesAtMost : {A : Type 0} → ℕ → Format A → A → Type 0
TakesAtMost n format a = Takes n (format.fits a) (format.print a)

-- ---- any tokens

-- what takes at most m bytes takes at most n, if n is no less
pub with_room : {m : ℕ} {fits : Bool} {ts : List Token} (n : ℕ) → m ≤ n → Takes m fits ts → Takes n fits ts
with_room n le h = record { bytes = λ f. omega (arith, le, h.bytes f) }

width_append : (xs ys : List Token) → width (xs ++ ys) ≡ width xs + width ys
unfolding width
width_append [] ys = omega arith
width_append (x ∷ xs) ys = omega (arith, width_append xs ys)

-- a value and then another take at most what each may take
pub both_take : {m n : ℕ} {a b : Bool} {xs ys : List Token} → Takes m a xs → Takes n b ys → Takes (m + n) (a && b) (xs ++ ys)
both_take {m} {n} {a} {b} {xs} {ys} h k = record {
  bytes = λ f. let p = and_parts a b f in omega (arith, width_append xs ys, h.bytes p.0, k.bytes p.1);
}

-- so do the same values in another shape
pub shape_takes : {n : ℕ} {fits : Bool} {ts : List Token} (has : Bool) → Takes n fits ts → Takes n (has && fits) ts
shape_takes {n} {fits} has h = record { bytes = λ f. h.bytes (and_parts has fits f).1 }

-- so do those of them that pass a test
pub only_takes : {n : ℕ} {fits : Bool} {ts : List Token} (passes : Bool) → Takes n fits ts → Takes n (fits && passes) ts
only_takes {n} {fits} passes h = record { bytes = λ f. h.bytes (and_parts fits passes f).0 }

-- lines one after the other are no longer than their width
pub concat_most : (ts : List Token) → length (concat ts) ≤ width ts
unfolding width
concat_most [] = omega arith
concat_most (t ∷ ts) = omega (arith, length-append t (concat ts), concat_most ts)

join_most : (ts : List Token) → length (join_with_byte 44 ts) ≤ width ts
unfolding width
join_most [] = omega arith
join_most (t ∷ []) = omega arith
join_most (t ∷ u ∷ ts) = omega (arith, length-append t (44 ∷ join_with_byte 44 (u ∷ ts)), join_most (u ∷ ts))

-- ---- one token

-- one token of at most n bytes
pub token_takes : (n : ℕ) (fits : Bool) (t : Token) → (fits ≡ true → length t ≤ n) → Takes (suc n) fits (t ∷ [])
unfolding width
token_takes n fits t h = record { bytes = λ f. omega (arith, h f) }

-- these fields as a line
pub line_takes : {n : ℕ} {fits : Bool} {ts : List Token} → Takes n fits ts → Takes (n + 2) fits ((join_with_byte 44 ts ++ 10 ∷ []) ∷ [])
unfolding width
line_takes {n} {fits} {ts} h = record { bytes = λ f. omega (arith, length-append (join_with_byte 44 ts) (10 ∷ []), join_most ts, h.bytes f) }

-- a word
pub word_takes : (w : Token) → TakesAtMost (suc (length w)) (word w) tt
word_takes w = token_takes (length w) true w (λ _. omega arith)

-- a text unchanged, if the test lets only short ones through
pub plain_takes : (test : Token → Bool) (n : ℕ) → ((t : Token) → test t ≡ true → length t ≤ n) → (t : Token) → TakesAtMost (suc n) (one (plain test)) t
plain_takes test n h t = token_takes n (test t) t (h t)

-- ---- numbers

-- numbers up to `most` have at most k digits
abbrev pub are_enough : ℕ → ℕ → Bool
are_enough k most = nat_lt 0 k && (nat_lt most (10 ^ k) && nat_lt most (10 ^ 64))

digits_most : (most k n : ℕ) → are_enough k most ≡ true → n ≤ most → length (decimal n) ≤ k
digits_most most k n e h =
    let p = and_parts (nat_lt 0 k) (nat_lt most (10 ^ k) && nat_lt most (10 ^ 64)) e in
    let q = and_parts (nat_lt most (10 ^ k)) (nat_lt most (10 ^ 64)) p.1 in
    length-decimal-le_wide k n (ltb-true 0 k p.0) (omega (arith, ltb-true most (10 ^ k) q.0, h)) (omega (arith, ltb-true most (10 ^ 64) q.1, h))

at_most : (least most n : ℕ) → in_range least most n ≡ true → n ≤ most
at_most least most n h = leb-true n most (and_parts (nat_le least n) (nat_le n most) h).1

-- a number that is known to be at most `top`
pub number_at : (least most top k n : ℕ) → are_enough k top ≡ true → n ≤ top → TakesAtMost (suc k) (one (number least most)) n
number_at least most top k n e h = token_takes k (in_range least most n) (decimal n) (λ _. digits_most top k n e h)

-- a number within a range that ends at `top` or before
pub number_up_to : (least most top k n : ℕ) → are_enough k top ≡ true → most ≤ top → TakesAtMost (suc k) (one (number least most)) n
number_up_to least most top k n e h =
    token_takes k (in_range least most n) (decimal n) (λ f. let le = at_most least most n f in digits_most top k n e (omega (arith, le, h)))

-- a number within a range
pub number_takes : (least most k n : ℕ) → are_enough k most ≡ true → TakesAtMost (suc k) (one (number least most)) n
number_takes least most k n e = number_up_to least most most k n e (omega arith)

-- a number with decimals takes at most its digits, the point and the decimals
pub fixed_takes : (places least most k n : ℕ) → are_enough k most ≡ true → TakesAtMost (suc (k + 1 + places)) (one (fixed places least most)) n
fixed_takes places least most k n e = token_takes (k + 1 + places) (in_range least most n) (fixed_text places n) (λ f.
    let le = at_most least most n f in
    let u = div-le_self n (10 ^ places) in
    let d = digits_most most k (n / 10 ^ places) e (omega (arith, le, u)) in
    omega (arith, d, length-append (decimal (n / 10 ^ places)) (46 ∷ last_digits places n), length_last_digits places n))

-- the line of one number
pub number_line_takes : (most top k n : ℕ) → are_enough k top ≡ true → most ≤ top → TakesAtMost (suc k + 2) (number_line most) n
number_line_takes most top k n e h = line_takes (number_up_to 0 most top k n e h)

-- the line of a word and a number within a range
pub count_line_takes : (w : Token) (least most k n : ℕ) → are_enough k most ≡ true → TakesAtMost (length w + k + 4) (count_line w least most) n
count_line_takes w least most k n e =
    with_room (length w + k + 4) (omega arith) (line_takes (both_take (word_takes w) (number_takes least most k n e)))

count_at : (w : Token) (least most top k n : ℕ) → are_enough k top ≡ true → n ≤ top → TakesAtMost (length w + k + 4) (count_line w least most) n
count_at w least most top k n e h =
    with_room (length w + k + 4) (omega arith) (line_takes (both_take (word_takes w) (number_at least most top k n e h)))

-- ---- choices

-- one of two formats
pub chosen_takes : {A : Type 0} (n : ℕ) (b : Bool) (first second : Format A) (a : A) → TakesAtMost n first a → TakesAtMost n second a → TakesAtMost n (cond b first second) a
chosen_takes n true first second a h k = h
chosen_takes n false first second a h k = k

-- a value without a field
pub no_field_takes : {A : Type 0} (n : ℕ) (x : A) (has : A → Bool) (a : A) → TakesAtMost n (no_field x has) a
unfolding width
no_field_takes n x has a = record { bytes = λ _. omega arith }

-- a value with an empty field
pub empty_field_takes : {A : Type 0} (n : ℕ) (x : A) (has : A → Bool) (a : A) → TakesAtMost (suc n) (empty_field x has) a
empty_field_takes n x has a = token_takes n (has a && true) [] (λ _. omega arith)

-- a value of either text
pub either_takes : {A B : Type 0} (first : Text A) (second : Text B) (n : ℕ) → ((a : A) → TakesAtMost n (one first) a) → ((b : B) → TakesAtMost n (one second) b) → (x : Either A B) → TakesAtMost n (one (either first second)) x
either_takes first second n h k (Left a) = h a
either_takes first second n h k (Right b) = k b

-- a text that may be missing
pub if_any_takes : {A : Type 0} (text : Text A) (n : ℕ) → ((a : A) → TakesAtMost (suc n) (one text) a) → (x : Option A) → TakesAtMost (suc n) (one (if_any text)) x
if_any_takes text n h None = token_takes n true [] (λ _. omega arith)
if_any_takes text n h (Some a) = h a

-- ---- a value for each key

more_of : (a b n m : ℕ) → a ≤ n → b ≤ m * n → a + b ≤ suc m * n
more_of a b n m h g = omega (arith, h, g)

-- a list of which each value takes at most n bytes
pub each_takes : {K A : Type 0} (format : List A → K → Format A) (n : ℕ) (before : List A) (keys : List K) (xs : List A)
    → AllByRecursion (λ x. (before : List A) (k : K) → TakesAtMost n (format before k) x) xs → TakesAtMost (length xs * n) (each_after before keys format) xs
unfolding width
each_takes format n before [] xs all = record { bytes = λ _. omega arith }
each_takes format n before (k ∷ ks) [] all = record { bytes = λ _. omega arith }
each_takes format n before (k ∷ ks) (x ∷ xs) all =
    with_room (length (x ∷ xs) * n) (more_of n (length xs * n) n (length xs) (omega arith) (omega arith))
    (both_take (all.0 before k) (each_takes format n (before ++ x ∷ []) ks xs all.1))

-- at most so many rows
pub rows_take : {K A : Type 0} (format : List A → K → Format A) (n rows : ℕ) (before : List A) (keys : List K) (xs : List A)
    → AllByRecursion (λ x. (before : List A) (k : K) → TakesAtMost n (format before k) x) xs → length xs ≤ rows → TakesAtMost (rows * n) (each_after before keys format) xs
rows_take format n rows before keys xs all few =
    with_room (rows * n) (mul-le (length xs) n rows n few (omega arith)) (each_takes format n before keys xs all)

-- at most so many rows after their count, each of which takes at most n bytes
pub counted_take : {A : Type 0} (w : Token) (least most : ℕ) (format : ℕ → Format A) (n rows k : ℕ) → are_enough k rows ≡ true
    → (xs : List A) → length xs ≤ rows → AllByRecursion (λ x. (i : ℕ) → TakesAtMost n (format i) x) xs → TakesAtMost (length w + k + 4 + rows * n) (counted w least most format) xs
counted_take w least most format n rows k e xs few all =
    both_take (count_at w least most rows k (length xs) e few)
    (rows_take (λ _ i. format i) n rows [] (numbers_from 0 (length xs)) xs (whatever_before n format xs all) few)
  where
    whatever_before : {A : Type 0} (n : ℕ) (format : ℕ → Format A) (xs : List A) → AllByRecursion (λ x. (i : ℕ) → TakesAtMost n (format i) x) xs
        → AllByRecursion (λ x. (before : List A) (i : ℕ) → TakesAtMost n (format i) x) xs
    whatever_before n format [] all = tt
    whatever_before n format (x ∷ xs) all = (λ before i. all.0 i, whatever_before n format xs all.1)

-- the same where every value of the formats takes no more
pub counted_takes : {A : Type 0} (w : Token) (least most : ℕ) (format : ℕ → Format A) (n rows k : ℕ) → are_enough k rows ≡ true
    → ((i : ℕ) (x : A) → TakesAtMost n (format i) x) → (xs : List A) → length xs ≤ rows → TakesAtMost (length w + k + 4 + rows * n) (counted w least most format) xs
counted_takes w least most format n rows k e every xs few =
    counted_take w least most format n rows k e xs few (all_are (λ x. (i : ℕ) → TakesAtMost n (format i) x) xs (λ x i. every i x))

-- the same with keys
pub one_for_each_takes : {K A : Type 0} (w : Token) (keys : List K) (format : K → Format A) (n rows k : ℕ) → are_enough k rows ≡ true
    → ((key : K) (x : A) → TakesAtMost n (format key) x) → (xs : List A) → length xs ≤ rows → TakesAtMost (length w + k + 4 + rows * n) (one_for_each w keys format) xs
one_for_each_takes w keys format n rows k e every xs few =
    both_take (count_at w (length keys) (length keys) rows k (length xs) e few)
    (rows_take (λ _ key. format key) n rows [] keys xs (all_are (λ x. (before : List _) (key : _) → TakesAtMost n (format key) x) xs (λ x before key. every key x)) few)
