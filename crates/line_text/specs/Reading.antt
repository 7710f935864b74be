-- The results of a step of reading.
use Rattle.std.specs.Prelude.{◌≡◌, ⊤, ℕ, List, [], ◌∷◌, Option, Some, None, option_map, Result, Ok, Err}
use Rattle.std.specs.Borrow.{Bor}
use Rattle.std.specs.List.{slice_split}
use Rattle.answers.specs.declared.stop.Stop.{Stop}
use Rattle.answers.specs.declared.stop.Stop.TheVariants as stop
use Rattle.line_text.specs.Formats.{Token, accepted}
use Rattle.line_text.specs.Files.{comma, unended}
use Rattle.line_text.specs.declared.bad_line.BadLine.{BadLine}

-- a value was read and left are the tokens after it, or left begins at the first bad line
abbrev pub Reads : {X Y : Type 0} → (X → Y) → Result X BadLine → List Token → Result (Y × List Token) (List Token)
    → Type 0
Reads view (Ok x) left read = read ≡ Ok (view x, left)
Reads view (Err bad) left read = read ≡ Err left

-- the same for a step that may find no memory; then nothing is promised
abbrev pub Gathers : {X Y : Type 0} → (X → Y) → Result X (Stop BadLine) → List Token
    → Result (Y × List Token) (List Token) → Type 0
Gathers view (Ok x) left read = read ≡ Ok (view x, left)
Gathers view (Err (stop.Fault bad)) left read = read ≡ Err left
Gathers view (Err stop.NoMemory) left read = ⊤

-- a value was read and left are the tokens after it, or the next tokens aren't of the format
abbrev pub Takes : {X Y : Type 0} → (X → Y) → Option X → List Token → Result (Y × List Token) (List Token) → Type 0
Takes view (Some x) left read = read ≡ Ok (view x, left)
Takes view None left read = accepted read ≡ None

-- the fields of the first line, if it is there and ends with its line feed
abbrev pub first_fields : List Token → Option (List Token)
first_fields [] = None
first_fields (l ∷ ls) = option_map (slice_split comma) (unended l)

-- the tokens after the first
abbrev pub later : List Token → List Token
later [] = []
later (t ∷ ts) = ts

-- the fields of the bytes that a cursor has left
abbrev pub fields_left : Option (Bor (List ℕ)) → List Token
fields_left None = []
fields_left (Some bytes) = slice_split comma bytes.now
