-- The orders of `single` and `plan` for the words that a user may write, in terms of these words alone.
use Rattle.std.specs.Prelude.{◌≡◌, ◌≢◌, ⊤, List, [], ◌∷◌, ◌++◌, Some, None, Err, codes}
use Rattle.clap.specs.Words.{Text}
use Rattle.spares_words.specs.Order.{order_of, plan_from, plan_terms_from, single_from}
use Rattle.spares_words.specs.declared.order.WordsFault.TheVariants.{Shape}

-- the word begins with no hyphen (45), or has at most one byte
abbrev pub IsPlain : Text → Type 0
IsPlain [] = ⊤
IsPlain (_ ∷ []) = ⊤
IsPlain (c ∷ _ ∷ _) = c ≢ 45

-- the words after `single`
abbrev pub single_words : List Text → List Text
single_words words = codes "single" ∷ words

-- two plain words are the mean and the stock
abbrev pub TakesTwoWords : Type 0
TakesTwoWords = (mean stock : Text) → IsPlain mean → IsPlain stock
    → order_of (single_words (mean ∷ stock ∷ [])) ≡ single_from mean None stock

-- after two hyphens any two words are the mean and the stock
abbrev pub TakesAnyWords : Type 0
TakesAnyWords = (mean stock : Text)
    → order_of (single_words (codes "--" ∷ mean ∷ stock ∷ [])) ≡ single_from mean None stock

-- `--variance V` may be before, between or after them
pub record TakesOption (mean stock variance : Text) : Type 0 where
  pub before : order_of (single_words (codes "--variance" ∷ variance ∷ mean ∷ stock ∷ []))
      ≡ single_from mean (Some variance) stock
  pub between : order_of (single_words (mean ∷ codes "--variance" ∷ variance ∷ stock ∷ []))
      ≡ single_from mean (Some variance) stock
  pub after : order_of (single_words (mean ∷ stock ∷ codes "--variance" ∷ variance ∷ []))
      ≡ single_from mean (Some variance) stock

-- `--variance V` is taken at each of these places, for any plain word V
abbrev pub TakesOptionAnywhere : Type 0
TakesOptionAnywhere = (mean stock variance : Text) → IsPlain mean → IsPlain stock → IsPlain variance
    → TakesOption mean stock variance

-- so may `--variance=V`, for any text V
pub record TakesJoined (mean stock variance : Text) : Type 0 where
  pub before : order_of (single_words ((codes "--variance=" ++ variance) ∷ mean ∷ stock ∷ []))
      ≡ single_from mean (Some variance) stock
  pub between : order_of (single_words (mean ∷ (codes "--variance=" ++ variance) ∷ stock ∷ []))
      ≡ single_from mean (Some variance) stock
  pub after : order_of (single_words (mean ∷ stock ∷ (codes "--variance=" ++ variance) ∷ []))
      ≡ single_from mean (Some variance) stock

-- `--variance=V` is taken at each of these places
abbrev pub TakesJoinedAnywhere : Type 0
TakesJoinedAnywhere = (mean stock variance : Text) → IsPlain mean → IsPlain stock
    → TakesJoined mean stock variance

-- one plain word or three are refused, and so is an option with no value
pub record Refuses (a b c : Text) : Type 0 where
  pub one_word : order_of (single_words (a ∷ [])) ≡ Err Shape
  pub three_words : order_of (single_words (a ∷ b ∷ c ∷ [])) ≡ Err Shape
  pub no_value : order_of (single_words (a ∷ b ∷ codes "--variance" ∷ [])) ≡ Err Shape

-- these counts of words are refused, for any plain words
abbrev pub RefusesOtherCounts : Type 0
RefusesOtherCounts = (a b c : Text) → IsPlain a → IsPlain b → IsPlain c → Refuses a b c

-- a second variance is refused, whatever follows it
abbrev pub RefusesSecondOption : Type 0
RefusesSecondOption = (variance second : Text) (rest : List Text)
    → order_of (single_words ((codes "--variance=" ++ variance) ∷ (codes "--variance=" ++ second) ∷ rest)) ≡ Err Shape

-- `plan` with its tables, its budget and its certificate, each any text joined to its option
abbrev pub TakesJoinedPlan : Type 0
TakesJoinedPlan = (sites parts rates budget certificate : Text)
    → order_of (
    codes "plan" ∷ (codes "--sites=" ++ sites) ∷ (codes "--parts=" ++ parts) ∷ (codes "--rates=" ++ rates)
    ∷ (codes "--budget=" ++ budget) ∷ (codes "--certificate=" ++ certificate) ∷ []
    )
    ≡ plan_from (record { sites = sites; parts = parts; rates = rates }) None
    (plan_terms_from None budget None None) certificate
