-- What the cursors over lines and fields find.
use Rattle.std.proofs.Common.{◌≡◌, ◌≢◌, ℕ, suc, ◌+◌, ◌<◌, ◌≤◌, Bool, true, false, cond, eqb, List, [], ◌∷◌, ◌++◌, length, get_or, Option, Some, None, refl, sym, ap, ◌∙◌, arith}
use Rattle.std.specs.List.{AllByRecursion, position_or_len, before_first, after_first, slice_split, onto_first}
use Rattle.std.specs.Prelude.{option_map, IsTrue, ◌↔◌}
use Rattle.std.proofs.lemmas.Bool.{eqb-true, false≢true, false_from_ne_true}
use Rattle.std.proofs.lemmas.List.{length-take, get_or-take}
use Rattle.std.proofs.lemmas.List.Elements.{recursion_from_All}
use Rattle.std.proofs.lemmas.List.Sums.{split_at_first, fails_before_first, passes_at_first}
use Rattle.std.proofs.lemmas.List.Splits.{slice_split_first, slice_split_none}
use Rattle.std.specs.Prelude.{bytes_eq, Result, Ok, Err}
use Rattle.std.specs.Option.{option_map_or}
use Rattle.std.specs.Borrow.{Bor}
use Rattle.std.proofs.lemmas.Slice.Eq.{bytes_eq-Decides}
use Rattle.line_text.specs.Texts.{word}
use Rattle.answers.specs.Steps.{◌>>=◌}
use Rattle.line_text.specs.Formats.{all_read, Token, Text, Format, one, accepted, read_all}
use Rattle.line_text.specs.Files.{line, comma, unended, lines_of, onto_line}
use Rattle.line_text.specs.Reading.{first_fields, later, fields_left}
use Rattle.line_text.specs.Exact.{is_end}
use Rattle.line_text.proofs.LineLaws.{lines_at, unended_again, lines_cons}
use Rattle.line_text.proofs.Laws.{nil_cons}

-- no bytes have no lines
pub empty_lines : (bytes : List ℕ) → length bytes ≡ 0 → lines_of bytes ≡ []
unfolding lines_of
empty_lines [] h = refl
empty_lines (b ∷ bs) h = absurd (omega (arith, h))

none_before : (bytes : List ℕ) → AllByRecursion (λ b. eqb b 10 ≡ false) (before_first is_end bytes)
none_before bytes = recursion_from_All (λ b. eqb b 10 ≡ false) (before_first is_end bytes) (λ k d lt.
    let short : k < position_or_len is_end bytes = omega (arith, lt, length-take (position_or_len is_end bytes) bytes) in
    rw (get_or-take (position_or_len is_end bytes) bytes k d short) (fails_before_first is_end bytes k d short))

-- the line up to the first line feed, and the others
pub line_found : (bytes : List ℕ) → position_or_len is_end bytes < length bytes → lines_of bytes ≡ (before_first is_end bytes ++ 10 ∷ []) ∷ lines_of (after_first is_end bytes)
line_found bytes h =
    let parts = split_at_first is_end bytes 0 h in
    let lf : get_or bytes (position_or_len is_end bytes) 0 ≡ 10 = eqb-true _ 10 (passes_at_first is_end bytes 0 h) in
    let whole : bytes ≡ before_first is_end bytes ++ 10 ∷ after_first is_end bytes = parts ∙ ap (λ (b : ℕ). before_first is_end bytes ++ b ∷ after_first is_end bytes) lf in
    ap lines_of whole ∙ lines_at (before_first is_end bytes) (after_first is_end bytes) (none_before bytes)

pub fields_found : (bytes : List ℕ) → position_or_len is_end bytes < length bytes → first_fields (lines_of bytes) ≡ Some (slice_split comma (before_first is_end bytes))
fields_found bytes h = ap first_fields (line_found bytes h) ∙ ap (option_map (slice_split comma)) (unended_again (before_first is_end bytes))

no_end_at_all : (bytes : List ℕ) → length bytes ≤ position_or_len is_end bytes → AllByRecursion (λ b. eqb b 10 ≡ false) bytes
no_end_at_all bytes h = recursion_from_All (λ b. eqb b 10 ≡ false) bytes (λ k d lt. fails_before_first is_end bytes k d (omega (arith, lt, h)))

-- bytes without a line end are one line
pub one_line : (b : ℕ) (bytes : List ℕ) → AllByRecursion (λ b. eqb b 10 ≡ false) (b ∷ bytes) → lines_of (b ∷ bytes) ≡ (b ∷ bytes) ∷ []
one_line b [] h = lines_cons b [] false h.0 ∙ ap (onto_line b) (empty_lines [] refl)
one_line b (c ∷ bytes) h = lines_cons b (c ∷ bytes) false h.0 ∙ ap (onto_line b) (one_line c bytes h.1)

-- bytes without a line end have no line that ends
pub never_ended : (bytes : List ℕ) → AllByRecursion (λ b. eqb b 10 ≡ false) bytes → unended bytes ≡ None
never_ended [] h = refl
never_ended (b ∷ []) h = rw h.0 refl
never_ended (b ∷ c ∷ rest) h = ap (option_map (λ t. b ∷ t)) (never_ended (c ∷ rest) h.1)

no_fields : (bytes : List ℕ) → AllByRecursion (λ b. eqb b 10 ≡ false) bytes → first_fields (lines_of bytes) ≡ None
no_fields [] h = ap first_fields (empty_lines [] refl)
no_fields (b ∷ bytes) h = ap first_fields (one_line b bytes h) ∙ ap (option_map (slice_split comma)) (never_ended (b ∷ bytes) h)

pub fields_missing : (bytes : List ℕ) → length bytes ≤ position_or_len is_end bytes → first_fields (lines_of bytes) ≡ None
fields_missing bytes h = no_fields bytes (no_end_at_all bytes h)

later_none : (bytes : List ℕ) → AllByRecursion (λ b. eqb b 10 ≡ false) bytes → later (lines_of bytes) ≡ []
later_none [] h = ap later (empty_lines [] refl)
later_none (b ∷ bytes) h = ap later (one_line b bytes h)

pub passed_last : (bytes : List ℕ) → length bytes ≤ position_or_len is_end bytes → later (lines_of bytes) ≡ []
passed_last bytes h = later_none bytes (no_end_at_all bytes h)

pub passed : (bytes : List ℕ) → position_or_len is_end bytes < length bytes → later (lines_of bytes) ≡ lines_of (after_first is_end bytes)
passed bytes h = ap later (line_found bytes h)

onto_nil : (b : ℕ) (ls : List Token) → onto_line b ls ≡ [] → ⊥
onto_nil b [] h = absurd cc
onto_nil b (l ∷ ls) h = absurd cc

some_line : (b : ℕ) (bytes : List ℕ) (c : Bool) → eqb b 10 ≡ c → lines_of (b ∷ bytes) ≡ [] → ⊥
some_line b bytes true h e = nil_cons (10 ∷ []) (lines_of bytes) (sym (lines_cons b bytes true h) ∙ e)
some_line b bytes false h e = onto_nil b (lines_of bytes) (sym (lines_cons b bytes false h) ∙ e)

-- ---- fields

pub field_found : (bytes : List ℕ) → position_or_len comma bytes < length bytes → slice_split comma bytes ≡ before_first comma bytes ∷ slice_split comma (after_first comma bytes)
field_found bytes h = slice_split_first comma bytes 0 h

pub last_field : (bytes : List ℕ) → length bytes ≤ position_or_len comma bytes → slice_split comma bytes ≡ bytes ∷ []
last_field bytes h = slice_split_none comma bytes (λ k d lt. fails_before_first comma bytes k d (omega (arith, lt, h)))

-- there are no lines exactly where there are no bytes
pub empty_case : (bytes : List ℕ) (ls : List Token) (r : Bool) → r ≡ eqb (length bytes) 0 → lines_of bytes ≡ ls → IsTrue r ↔ (ls ≡ [])
empty_case [] ls true h e = (λ _. sym e ∙ empty_lines [] refl, λ _. refl)
empty_case [] ls false h e = absurd (false≢true h)
empty_case (b ∷ bytes) ls true h e = absurd (omega (arith, eqb-true (length (b ∷ bytes)) 0 (sym h)))
empty_case (b ∷ bytes) ls false h e = (λ t. absurd (false≢true t), λ k. absurd (some_line b bytes (eqb b 10) refl (e ∙ k)))

onto_some : (b : ℕ) (parts : List Token) → onto_first b parts ≢ []
onto_some b [] h = absurd cc
onto_some b (t ∷ ts) h = absurd cc

cond_some : (c : Bool) (x y : List Token) → x ≢ [] → y ≢ [] → cond c x y ≢ []
cond_some true x y a b = a
cond_some false x y a b = b

pub some_fields : (bytes : List ℕ) → slice_split comma bytes ≢ []
some_fields [] h = absurd cc
some_fields (b ∷ bytes) h = cond_some (comma b) ([] ∷ slice_split comma bytes) (onto_first b (slice_split comma bytes)) (λ e. nil_cons [] (slice_split comma bytes) e) (onto_some b (slice_split comma bytes)) h

-- a cursor that still has bytes has at least one field, for an empty text is one empty field
pub some_left : (o : Option (Bor (List ℕ))) (b : Bor (List ℕ)) (fs : List Token) → o ≡ Some b → fields_left o ≡ fs → fs ≡ [] → ⊥
some_left o b fs e v n = some_fields b.now (sym (ap fields_left e) ∙ v ∙ n)

-- ---- reading a field

pub none_left : {A : Type 0} (text : Text A) (ts : List Token) → ts ≡ [] → accepted ((one text).read ts) ≡ None
none_left text ts h = rw h refl

pub field_read : {A : Type 0} (text : Text A) (ts : List Token) (t : Token) (rest : List Token) (a : A) → ts ≡ t ∷ rest → Some a ≡ text.read t → (one text).read ts ≡ Ok (a, rest)
field_read text ts t rest a h k = rw (h, ← k) refl

pub field_refused : {A : Type 0} (text : Text A) (ts : List Token) (t : Token) (rest : List Token) → ts ≡ t ∷ rest → None ≡ text.read t → accepted ((one text).read ts) ≡ None
field_refused text ts t rest h k = rw (h, ← k) refl

pub word_found : (ts : List Token) (t w : Token) (rest : List Token) → ts ≡ t ∷ rest → t ≡ w → (word w).read ts ≡ Ok (tt, rest)
word_found ts t w rest h k = rw (h, k, (bytes_eq-Decides w w).1 refl) refl

pub word_differs : (ts : List Token) (t w : Token) (rest : List Token) → ts ≡ t ∷ rest → (t ≡ w → ⊥) → accepted ((word w).read ts) ≡ None
word_differs ts t w rest h k = rw (h, false_from_ne_true (bytes_eq w t) (λ e. k (sym ((bytes_eq-Decides w t).0 e)))) refl

-- ---- reading a line

line_at : {A : Type 0} (fields : Format A) (ls : List Token) (l : Token) (o : Option Token) (fs : List Token) → unended l ≡ o → option_map (slice_split comma) o ≡ Some fs → (line fields).read l ≡ accepted (read_all fields fs)
line_at fields ls l None fs e h = absurd cc
line_at fields ls l (Some t) fs e h = let same : slice_split comma t ≡ fs = cc in rw (e, same) refl

line_value : {A : Type 0} (fields : Format A) (ts fs : List Token) (o : Option A) → first_fields ts ≡ Some fs → o ≡ accepted (read_all fields fs) → (one (line fields)).read ts ≡ option_map_or (λ a. Ok (a, later ts)) o (Err ts)
line_value fields [] fs o h k = absurd cc
line_value fields (l ∷ ls) fs None h k = rw (line_at fields ls l (unended l) fs refl h, ← k) refl
line_value fields (l ∷ ls) fs (Some a) h k = rw (line_at fields ls l (unended l) fs refl h, ← k) refl

-- where the fields of the first line are all of a format, reading a line gives their value and what follows
pub line_read : {A : Type 0} (fields : Format A) (ts fs : List Token) (a : A) (rest : List Token) → first_fields ts ≡ Some fs → Some a ≡ accepted (read_all fields fs) → rest ≡ later ts → (one (line fields)).read ts ≡ Ok (a, rest)
line_read fields ts fs a rest h k e = rw e (line_value fields ts fs (Some a) h k)

-- a line whose fields are not of the format is the first bad one
pub line_refused : {A : Type 0} (fields : Format A) (ts fs : List Token) → first_fields ts ≡ Some fs → None ≡ accepted (read_all fields fs) → (one (line fields)).read ts ≡ Err ts
line_refused fields ts fs h k = line_value fields ts fs None h k

unended_none : {A : Type 0} (fields : Format A) (l : Token) (o : Option Token) → unended l ≡ o → option_map (slice_split comma) o ≡ None → (line fields).read l ≡ None
unended_none fields l None e h = rw e refl
unended_none fields l (Some t) e h = absurd cc

-- where no line is left with its line feed, the first bad line is here
pub line_missing : {A : Type 0} (fields : Format A) (ts : List Token) → first_fields ts ≡ None → (one (line fields)).read ts ≡ Err ts
line_missing fields [] h = refl
line_missing fields (l ∷ ls) h = rw (unended_none fields l (unended l) refl h) refl

-- ---- all fields of a line

pub whole_read : {A : Type 0} (format : Format A) (fs : List Token) (a : A) (rest : List Token) → format.read fs ≡ Ok (a, rest) → rest ≡ [] → Some a ≡ accepted (read_all format fs)
whole_read format fs a rest h e = rw (h, e) refl

pub whole_left : {A : Type 0} (format : Format A) (fs : List Token) (a : A) (rest : List Token) → format.read fs ≡ Ok (a, rest) → rest ≢ [] → None ≡ accepted (read_all format fs)
whole_left format fs a [] h e = absurd (e refl)
whole_left format fs a (t ∷ ts) h e = rw h refl

refused_at : {A : Type 0} (r : Result (A × List Token) (List Token)) → accepted r ≡ None → None ≡ accepted (r >>= all_read)
refused_at (Ok x) h = absurd cc
refused_at (Err e) h = refl

pub whole_refused : {A : Type 0} (format : Format A) (fs : List Token) → accepted (format.read fs) ≡ None → None ≡ accepted (read_all format fs)
whole_refused format fs h = refused_at (format.read fs) h

-- where the fields of the first line make a row and none is left, reading a line gives the row and what follows
pub row_read : {A : Type 0} (format : Format A) (ts fs : List Token) (a : A) (left rest : List Token) → first_fields ts ≡ Some fs → format.read fs ≡ Ok (a, left) → left ≡ []
    → rest ≡ later ts → (one (line format)).read ts ≡ Ok (a, rest)
row_read format ts fs a left rest h k e l = line_read format ts fs a rest h (whole_read format fs a left k e) l

-- where a field is left, the line is the first bad one
pub row_left : {A : Type 0} (format : Format A) (ts fs : List Token) (a : A) (left : List Token) → first_fields ts ≡ Some fs → format.read fs ≡ Ok (a, left) → left ≢ []
    → (one (line format)).read ts ≡ Err ts
row_left format ts fs a left h k n = line_refused format ts fs h (whole_left format fs a left k n)

-- where they make no row, too
pub row_refused : {A : Type 0} (format : Format A) (ts fs : List Token) → first_fields ts ≡ Some fs → accepted (format.read fs) ≡ None → (one (line format)).read ts ≡ Err ts
row_refused format ts fs h k = line_refused format ts fs h (whole_refused format fs k)

-- ---- counting lines

length_onto : (b : ℕ) (ls : List Token) → length (onto_line b ls) ≤ suc (length ls)
length_onto b [] = omega arith
length_onto b (l ∷ ls) = omega arith

few_at : (b : ℕ) (bytes : List ℕ) (c : Bool) → eqb b 10 ≡ c → length (lines_of (b ∷ bytes)) ≤ suc (length (lines_of bytes))
few_at b bytes true h = omega (arith, ap length (lines_cons b bytes true h))
few_at b bytes false h = omega (arith, ap length (lines_cons b bytes false h), length_onto b (lines_of bytes))

-- there are at most as many lines as bytes
pub few_lines : (bytes : List ℕ) → length (lines_of bytes) ≤ length bytes
few_lines [] = omega (arith, ap length (empty_lines [] refl))
few_lines (b ∷ bytes) = omega (arith, few_at b bytes (eqb b 10) refl, few_lines bytes)

-- what follows the first token is one token less
pub length_later : (ls : List Token) → ls ≢ [] → length ls ≡ length (later ls) + 1
length_later [] h = absurd (h refl)
length_later (l ∷ ls) h = omega arith
