-- A format is one term for both writing and reading values. A file is a list of lines, each with its line feed, and a
-- line is a list of fields: both are lists of tokens.
use Rattle.std.specs.Prelude.{ℕ, Bool, true, false, ◌&&◌, List, [], ◌∷◌, ◌++◌, Option, Some, None, Result, Ok, Err, if◌then◌else◌, bytes_eq}
use Rattle.answers.specs.Steps.{◌>>=◌}

-- the bytes of a field or of a line
abbrev pub Token : Type 0
Token = List ℕ

-- the writing and the reading of one token, and the values that have one
pub record Text (A : Type 0) : Type 0 where
  pub print : A → Token
  pub read : Token → Option A
  pub fits : A → Bool

-- the same for several tokens; reading returns the value and the tokens after it, or the tokens from the first bad one
-- on
pub record Format (A : Type 0) : Type 0 where
  pub print : A → List Token
  pub read : List Token → Result (A × List Token) (List Token)
  pub fits : A → Bool

infixl 10 ◌>>-◌
-- the next step for a value, if there is one
abbrev pub ◌>>-◌ : {A B : Type 0} → Option A → (A → Option B) → Option B
None >>- f = None
(Some x) >>- f = f x

-- A text with one spelling for each value: a token reads as its one possible value, if the text has that value and
-- spells it so.
abbrev pub spelled : {A : Type 0} → (A → Token) → (Token → A) → (A → Bool) → Text A
spelled print meant fits = record {
  print = print;
  read = λ t. if fits (meant t) && bytes_eq (print (meant t)) t then Some (meant t) else None;
  fits = fits;
}

-- ---- formats of tokens

-- the value of a token, or the token is the first bad one
abbrev pub taken : {A : Type 0} → Token → List Token → Option A → Result (A × List Token) (List Token)
taken t ts None = Err (t ∷ ts)
taken t ts (Some a) = Ok (a, ts)

abbrev pub read_one : {A : Type 0} → Text A → List Token → Result (A × List Token) (List Token)
read_one text [] = Err []
read_one text (t ∷ ts) = taken t ts (text.read t)

-- one token
abbrev pub one : {A : Type 0} → Text A → Format A
one text = record {
  print = λ a. text.print a ∷ [];
  read = read_one text;
  fits = text.fits;
}

-- no token
abbrev pub nothing : {A : Type 0} → A → Format A
nothing a = record {
  print = λ _. [];
  read = λ ts. Ok (a, ts);
  fits = λ _. true;
}

-- a value, and then another, whose format depends on the first
abbrev pub and_then : {A B : Type 0} → Format A → (A → Format B) → Format (A × B)
and_then first next = record {
  print = λ x. first.print x.0 ++ (next x.0).print x.1;
  read = λ ts. first.read ts >>= λ a. (next a.0).read a.1 >>= λ b. Ok ((a.0, b.0), b.1);
  fits = λ x. first.fits x.0 && (next x.0).fits x.1;
}

-- the same values in another shape; those that fail the test have none
abbrev pub as_shape : {A B : Type 0} → Format A → (A → B) → (B → A) → (B → Bool) → Format B
as_shape format to from has = record {
  print = λ b. format.print (from b);
  read = λ ts. format.read ts >>= λ a. Ok (to a.0, a.1);
  fits = λ b. has b && format.fits (from b);
}

-- ---- a value for each key, in the order of the keys

-- the tokens of the values, one format after the other
abbrev pub print_after : {K A : Type 0} → (List A → K → Format A) → List A → List K → List A → List Token
print_after format before [] xs = []
print_after format before (k ∷ ks) [] = []
print_after format before (k ∷ ks) (x ∷ xs) = (format before k).print x ++ print_after format (before ++ x ∷ []) ks xs

-- the values read one after the other, until the keys are used up or a token is bad
abbrev pub read_after : {K A : Type 0} → (List A → K → Format A) → List A → List K → List Token
    → Result (List A × List Token) (List Token)
read_after format before [] ts = Ok ([], ts)
read_after format before (k ∷ ks) ts = (format before k).read ts >>= λ x. read_after format (before ++ x.0 ∷ []) ks x.1
    >>= λ xs. Ok (x.0 ∷ xs.0, xs.1)

-- there is a value for each key, and each fits its format
abbrev pub fits_after : {K A : Type 0} → (List A → K → Format A) → List A → List K → List A → Bool
fits_after format before [] [] = true
fits_after format before [] (x ∷ xs) = false
fits_after format before (k ∷ ks) [] = false
fits_after format before (k ∷ ks) (x ∷ xs) = (format before k).fits x && fits_after format (before ++ x ∷ []) ks xs

-- each in the format of its key and the values before it
abbrev pub each_after : {K A : Type 0} → List A → List K → (List A → K → Format A) → Format (List A)
each_after before keys format = record {
  print = print_after format before keys;
  read = read_after format before keys;
  fits = fits_after format before keys;
}

-- each in the format of its key
abbrev pub each : {K A : Type 0} → List K → (K → Format A) → Format (List A)
each keys format = each_after [] keys (λ _ k. format k)

-- ---- tokens that all belong to a format

-- a value after which no token is left, or the tokens left
abbrev pub all_read : {A : Type 0} → A × List Token → Result A (List Token)
all_read (a, []) = Ok a
all_read (a, t ∷ ts) = Err (t ∷ ts)

-- the value of all these tokens, or the tokens from the first bad one on
abbrev pub read_all : {A : Type 0} → Format A → List Token → Result A (List Token)
read_all format ts = format.read ts >>= all_read

-- the value, without the details of a refusal
abbrev pub accepted : {A E : Type 0} → Result A E → Option A
accepted (Ok a) = Some a
accepted (Err e) = None
