-- Steps that may each refuse, one after another.
use Rattle.std.specs.Prelude.{Result, Ok, Err}

-- the next step for a value, or the first refusal
infixl 10 ◌>>=◌
abbrev pub ◌>>=◌ : {A B E : Type 0} → Result A E → (A → Result B E) → Result B E
(Ok value) >>= next = next value
(Err refusal) >>= next = Err refusal
