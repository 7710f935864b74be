-- The bytes that a step of writing appends.
use Rattle.std.specs.Prelude.{◌≡◌, ℕ, List, ◌++◌, take, Result, Ok, Err}
use Rattle.answers.specs.declared.stop.NoMemory.{NoMemory}

-- the first of these bytes were appended
pub record AppendsPart (old new piece : List ℕ) : Type 0 where
  pub count : ℕ
  pub is : new ≡ old ++ take count piece

-- these bytes were appended, or the first of them if no memory was found
abbrev pub Puts : Result Unit NoMemory → List ℕ → List ℕ → List ℕ → Type 0
Puts (Ok _) old new piece = new ≡ old ++ piece
Puts (Err _) old new piece = AppendsPart old new piece
