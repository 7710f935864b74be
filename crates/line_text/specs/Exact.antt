-- A format is exact if writing and reading are inverse and a refusal is at the first bad token.
use Rattle.std.specs.Prelude.{◌≡◌, ℕ, Bool, true, false, ◌==◌, List, [], ◌∷◌, ◌++◌, Some, Ok, Err}
use Rattle.std.specs.List.{AllByRecursion}
use Rattle.line_text.specs.Formats.{Token, Text, Format}
use Rattle.line_text.specs.Files.{comma}

-- ---- the bytes of tokens

-- a line feed
abbrev pub is_end : ℕ → Bool
is_end b = b == 10

-- no comma and no line feed
abbrev pub IsPlain : ℕ → Type 0
IsPlain b = (comma b ≡ false) × (is_end b ≡ false)

-- a field's bytes are all plain
abbrev pub IsField : Token → Type 0
IsField t = AllByRecursion IsPlain t

-- a line has one line feed, at its end
pub record IsLine (l : Token) : Type 0 where
  pub body : Token
  pub parts : l ≡ body ++ 10 ∷ []
  pub inside : AllByRecursion (λ b. is_end b ≡ false) body

-- the place of tokens: the tokens of a line are fields, and those of a file are lines
pub data Level : Type 0 where
  in_line : Level
  in_file : Level

-- the rules of a token, by its place
abbrev pub IsToken : Level → Token → Type 0
IsToken in_line = IsField
IsToken in_file = IsLine

-- ---- exactness

-- the first token, if there is one, and then the rest
abbrev pub next : List Token → List Token → List Token
next [] rest = []
next (t ∷ ts) rest = t ∷ rest

-- left begins at the first bad token: some value begins with the tokens before it, and none also has this one next
pub record Refused {A : Type 0} (format : Format A) (ts left : List Token) : Type 0 where
  pub front : List Token
  pub parts : ts ≡ front ++ left
  pub good : A
  pub fits : format.fits good ≡ true
  pub after : List Token
  pub begins : format.print good ≡ front ++ after
  pub no_other : (a : A) → format.fits a ≡ true → (more rest : List Token) → format.print a ++ more ≡ front
      ++ next left rest → ⊥

-- there is a value, each value reads as it was written, each token that reads was written so, and tokens obey P
pub record IsExactText {A : Type 0} (P : Token → Type 0) (text : Text A) : Type 0 where
  pub good : A
  pub fits : text.fits good ≡ true
  pub again : (a : A) → text.fits a ≡ true → text.read (text.print a) ≡ Some a
  pub takes : (t : Token) (a : A) → text.read t ≡ Some a → (text.fits a ≡ true) × (t ≡ text.print a)
  pub plain : (a : A) → text.fits a ≡ true → P (text.print a)

-- the same for several tokens, with any tokens after them; and a refusal is at the first bad one
pub record IsExact {A : Type 0} (P : Token → Type 0) (format : Format A) : Type 0 where
  pub good : A
  pub fits : format.fits good ≡ true
  pub again : (a : A) → format.fits a ≡ true → (ts : List Token) → format.read (format.print a ++ ts) ≡ Ok (a, ts)
  pub takes : (ts : List Token) (a : A) (rest : List Token) → format.read ts ≡ Ok (a, rest) → (format.fits a ≡ true)
      × (ts ≡ format.print a ++ rest)
  pub refuses : (ts left : List Token) → format.read ts ≡ Err left → Refused format ts left
  pub plain : (a : A) → format.fits a ≡ true → AllByRecursion P (format.print a)
