-- The answers of the calls that read.
use Rattle.std.specs.Prelude.{◌⊎◌, ⊤, ◌<◌, ◌≤◌, ◌^◌, ℕ, List, [], ◌∷◌, length, Option, Result, Ok, Err}
use Rattle.answers.specs.declared.stop.Stop.{Stop}
use Rattle.answers.specs.declared.stop.Stop.TheVariants as stop
use Rattle.spares_io.specs.Shelf.{Files}
use Rattle.spares_words.specs.declared.order.Order.{Order}
use Rattle.spares_words.specs.declared.order.Order.TheVariants as order
use Rattle.refusals.specs.declared.failure.Failure.{Failure}
use Rattle.order_inputs.specs.declared.files.Input.{Input}
use Rattle.order_inputs.specs.Files.{IsTooLong, IsUnread, Reads}

-- the limit is one that a shelf takes
abbrev pub IsReadable : Input → Type 0
IsReadable input = input.limit < 2 ^ 32

-- an input wasn't read, or there was no memory
abbrev pub Unread : Option Files → (List ℕ → ℕ) → (List ℕ → ℕ) → Input → Stop Failure → Type 0
Unread told before now input stop.NoMemory = ⊤
Unread told before now input (stop.Fault failure) = IsUnread told before now input failure
    ⊎ IsTooLong told input failure

-- the result of reading; want of memory may always come
abbrev pub ReadsGive : Option Files → (List ℕ → ℕ) → (List ℕ → ℕ) → List Input → Result (List (List ℕ)) (Stop Failure)
    → Type 0
ReadsGive told before now inputs (Ok bytes) = Reads told before now inputs (Ok bytes)
ReadsGive told before now inputs (Err stop.NoMemory) = ⊤
ReadsGive told before now inputs (Err (stop.Fault failure)) = Reads told before now inputs (Err failure)

-- the bytes of inputs, none of them too long
abbrev pub AreWithin : List Input → List (List ℕ) → Type 0
AreWithin [] [] = ⊤
AreWithin (input ∷ rest) (bytes ∷ more) = (length bytes ≤ input.limit) × AreWithin rest more
AreWithin [] (bytes ∷ more) = ⊥
AreWithin (input ∷ rest) [] = ⊥

-- the order reads the tables of a case, and a further file if it names one
abbrev pub ReadsMore : Order → Type 0
ReadsMore (order.Single mean variance stock) = ⊥
ReadsMore (order.Eval sites parts rates stocks bits) = ⊤
ReadsMore (order.Plan sites parts rates on_hand budget format objective certificate) = ⊤
ReadsMore (order.Check certificate) = ⊥
ReadsMore (order.Demo number lines) = ⊥
ReadsMore (order.Sweep sites parts rates) = ⊥
ReadsMore (order.Target sites parts rates backorders) = ⊥
ReadsMore (order.Session sites parts rates edits) = ⊤
ReadsMore (order.Compare sites parts rates stocks) = ⊤
