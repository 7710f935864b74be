-- The laws of each kind of field and line.
use Rattle.std.proofs.Common.{◌≡◌, ℕ, zero, suc, ◌+◌, ◌%◌, ◌^◌, ◌<◌, ◌≤◌, Bool, true, eqb, ◌&&◌, List, [], ◌∷◌, ◌++◌, length, refl, sym, ap, ◌∙◌, arith, lit<}
use Rattle.std.specs.Prelude.{not, nat_le}
use Rattle.std.specs.List.{AllByRecursion}
use Rattle.std.specs.Fmt.{decimal}
use Rattle.std.specs.Str.Parse.{digits_value}
use Rattle.std.proofs.lemmas.Bool.{and_parts, and_from, leb-true, le-leb, ne_eqb, not-true}
use Rattle.std.proofs.lemmas.Nat.{mod_below}
use Rattle.std.proofs.lemmas.Fmt.{decimal_by_steps_wide, decimal_is_IsNumeral_wide}
use Rattle.list_laws.proofs.Public.{all_are}
use Rattle.line_text.specs.Formats.{Token, Format, one, nothing, and_then, as_shape, each, fits_after}
use Rattle.line_text.specs.Texts.{in_range, number, plain, word, word_line, number_line, count_line, numbers_from, counted, one_for_each, no_field, empty_field}
use Rattle.line_text.specs.Exact.{IsExactText, IsExact, IsField, IsPlain, IsLine}
use Rattle.line_text.proofs.Laws.{one_is_exact, both_are_exact, as_shape_is_exact, nothing_is_exact, each_after_is_exact, length_after}
use Rattle.line_text.proofs.LineLaws.{spelled_is_exact, line_is_exact}

-- two fields' texts together are a field's text
pub field_append : (xs ys : Token) → IsField xs → IsField ys → IsField (xs ++ ys)
field_append [] ys a b = b
field_append (x ∷ xs) ys a b = (a.0, field_append xs ys a.1 b)

-- a digit is no comma and no line feed
pub digit_is_plain : (d : ℕ) → d < 10 → IsPlain (48 + d)
digit_is_plain d h = (ne_eqb (48 + d) 44 (λ e. omega (arith, e)), ne_eqb (48 + d) 10 (λ e. omega (arith, e)))

-- the decimal text of a number below 10^64 may stand as a field
pub decimal_is_field : (n : ℕ) → n < 10 ^ 64 → IsField (decimal n)
decimal_is_field n h =
    decimal_by_steps_wide (λ m ds. IsField ds)
    (λ m s. (digit_is_plain m s, tt))
    (λ m ds t i. field_append ds ((48 + m % 10) ∷ []) i (digit_is_plain (m % 10) (mod_below m 10 (lit< tt)), tt))
    n h

-- the text of a whole number within a range is exact
pub number_is_exact : (least most : ℕ) → least ≤ most → most < 10 ^ 64 → IsExactText IsField (number least most)
number_is_exact least most h m =
    spelled_is_exact IsField decimal (digits_value 10) (in_range least most) least
    (and_from _ _ (le-leb least least (omega arith)) (le-leb least most h))
    (λ n f. (decimal_is_IsNumeral_wide n (omega (arith, m, leb-true n most (and_parts (nat_le least n) (nat_le n most) f).1))).1)
    (λ n f. decimal_is_field n (omega (arith, m, leb-true n most (and_parts (nat_le least n) (nat_le n most) f).1)))

-- a text as it stands is exact where the test lets only fields' texts through
pub plain_is_exact : (test : Token → Bool) (good : Token) → test good ≡ true → ((t : Token) → test t ≡ true → IsField t) → IsExactText IsField (plain test)
plain_is_exact test good h p = spelled_is_exact IsField (λ t. t) (λ t. t) test good h (λ t f. refl) p

-- a test of what may stand in a word
abbrev pub is_field : Token → Bool
is_field [] = true
is_field (b ∷ t) = not (eqb b 44) && not (eqb b 10) && is_field t

-- the words that stand in a program pass the test by computation
pub a_field : (t : Token) → is_field t ≡ true → IsField t
a_field [] h = tt
a_field (b ∷ t) h =
    let p = and_parts (not (eqb b 44) && not (eqb b 10)) (is_field t) h in
    let q = and_parts (not (eqb b 44)) (not (eqb b 10)) p.0 in
    ((not-true (eqb b 44) q.0, not-true (eqb b 10) q.1), a_field t p.1)

-- a word that may stand as a field is an exact format
pub word_is_exact : (w : Token) → IsField w → IsExact IsField (word w)
word_is_exact w h = one_is_exact IsField _ (spelled_is_exact IsField (λ _. w) (λ _. tt) (λ _. true) tt refl (λ a f. refl) (λ a f. h))

-- the line of a word is an exact format
pub word_line_is_exact : (w : Token) → IsField w → IsExact IsLine (word_line w)
word_line_is_exact w h = one_is_exact IsLine _ (line_is_exact (word w) (word_is_exact w h) (λ a. omega arith))

-- the line of one number is an exact format
pub number_line_is_exact : (most : ℕ) → most < 10 ^ 64 → IsExact IsLine (number_line most)
number_line_is_exact most m = one_is_exact IsLine _ (line_is_exact (one (number 0 most)) (one_is_exact IsField (number 0 most) (number_is_exact 0 most (omega arith) m)) (λ a. omega arith))

-- a word and a number within a range are exact fields of a line
pub count_fields_are_exact : (w : Token) (least most : ℕ) → IsField w → least ≤ most → most < 10 ^ 64
    → IsExact IsField (as_shape (and_then (word w) (λ _. one (number least most))) (λ x. x.1) (λ n. (tt, n)) (λ _. true))
count_fields_are_exact w least most h l m =
    as_shape_is_exact IsField (and_then (word w) (λ _. one (number least most))) (λ x. x.1) (λ n. (tt, n)) (λ _. true)
    (both_are_exact IsField (word w) (λ _. one (number least most)) (word_is_exact w h) (λ _ _. one_is_exact IsField (number least most) (number_is_exact least most l m)))
    (λ a f. (refl, refl)) (λ b f g. refl)

-- the line of a word and a number within a range is an exact format
pub count_line_is_exact : (w : Token) (least most : ℕ) → IsField w → least ≤ most → most < 10 ^ 64 → IsExact IsLine (count_line w least most)
count_line_is_exact w least most h l m = one_is_exact IsLine _ (line_is_exact _ (count_fields_are_exact w least most h l m) (λ a. omega arith))

-- n numbers from some number on are n
pub length_numbers_from : (first n : ℕ) → length (numbers_from first n) ≡ n
length_numbers_from first zero = refl
length_numbers_from first (suc n) = omega (arith, length_numbers_from (suc first) n)

abbrev sized : {A : Type 0} → ℕ → List A → ℕ × List A
sized n xs = (n, xs)

pair_is : {A : Type 0} (n : ℕ) (xs : List A) → length xs ≡ n → sized (length xs) xs ≡ sized n xs
pair_is n xs h = ap (λ (k : ℕ). sized k xs) h

-- a line with a count and then so many exact values are an exact format
pub counted_is_exact : {A : Type 0} (w : Token) (least most : ℕ) (format : ℕ → Format A) → IsField w → least ≤ most → most < 10 ^ 64
    → ((k : ℕ) → IsExact IsLine (format k)) → IsExact IsLine (counted w least most format)
counted_is_exact {A} w least most format h l m e =
    as_shape_is_exact IsLine (and_then (count_line w least most) (λ n. each (numbers_from 0 n) format)) (λ x. x.1) (λ xs. (length xs, xs)) (λ _. true)
    (both_are_exact IsLine (count_line w least most) (λ n. each (numbers_from 0 n) format) (count_line_is_exact w least most h l m)
    (λ n _. each_after_is_exact IsLine [] (numbers_from 0 n) (λ _ k. format k) (all_are (λ k. (b : List A) → IsExact IsLine (format k)) (numbers_from 0 n) (λ k b. e k))))
    (λ a f. (pair_is a.0 a.1 (length_after (λ _ k. format k) [] (numbers_from 0 a.0) a.1 (and_parts _ _ f).1 ∙ length_numbers_from 0 a.0), refl))
    (λ b f g. refl)

range_is : (n k : ℕ) → in_range n n k ≡ true → k ≡ n
range_is n k h = let p = and_parts (nat_le n k) (nat_le k n) h in omega (arith, leb-true n k p.0, leb-true k n p.1)

-- formats that don't look at the values before are exact whatever was read before
pub whatever_before : {K A : Type 0} (P : Token → Type 0) (format : K → Format A) (keys : List K) → AllByRecursion (λ k. IsExact P (format k)) keys → AllByRecursion (λ k. (b : List A) → IsExact P (format k)) keys
whatever_before P format [] e = tt
whatever_before P format (k ∷ ks) e = (λ b. e.0, whatever_before P format ks e.1)

-- a line with the count of the keys and then an exact value for each are an exact format
pub one_for_each_is_exact : {K A : Type 0} (w : Token) (keys : List K) (format : K → Format A) → IsField w → length keys < 10 ^ 64
    → AllByRecursion (λ k. IsExact IsLine (format k)) keys → IsExact IsLine (one_for_each w keys format)
one_for_each_is_exact w keys format h m e =
    as_shape_is_exact IsLine (and_then (count_line w (length keys) (length keys)) (λ _. each keys format)) (λ x. x.1) (λ xs. (length xs, xs)) (λ _. true)
    (both_are_exact IsLine (count_line w (length keys) (length keys)) (λ _. each keys format) (count_line_is_exact w (length keys) (length keys) h (omega arith) m)
    (λ _ _. each_after_is_exact IsLine [] keys (λ _ k. format k) (whatever_before IsLine format keys e)))
    (λ a f. let p = and_parts ((count_line w (length keys) (length keys)).fits a.0) (fits_after (λ _ k. format k) [] keys a.1) f in
    (pair_is a.0 a.1 (length_after (λ _ k. format k) [] keys a.1 p.1 ∙ sym (range_is (length keys) a.0 p.0)), refl))
    (λ b f g. refl)

-- ---- a value with no text of its own

-- a single value without a field is an exact format
pub no_field_is_exact : {A : Type 0} (P : Token → Type 0) (x : A) (has : A → Bool) → has x ≡ true → ((b : A) → has b ≡ true → x ≡ b) → IsExact P (no_field x has)
no_field_is_exact P x has h only =
    as_shape_is_exact {A = Unit {0}} P (nothing tt) (λ _. x) (λ _. tt) has (nothing_is_exact {A = Unit {0}} P tt (λ a. refl)) (λ a f. (refl, h)) (λ b f g. only b f)

-- a single value with an empty field is an exact format
pub empty_field_is_exact : {A : Type 0} (x : A) (has : A → Bool) → has x ≡ true → ((b : A) → has b ≡ true → x ≡ b) → IsExact IsField (empty_field x has)
empty_field_is_exact x has h only =
    as_shape_is_exact IsField (word []) (λ _. x) (λ _. tt) has (word_is_exact [] tt) (λ a f. (refl, h)) (λ b f g. only b f)
