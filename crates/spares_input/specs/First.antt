-- The first of several faults.
use Rattle.std.specs.Prelude.{ℕ, zero, suc, List, [], ◌∷◌, Option, Some, None, Result, Ok, Err}

-- the first if it is found, otherwise the second
abbrev pub or_else : {A : Type 0} → Option A → Option A → Option A
or_else None next = next
or_else (Some x) next = Some x

-- the finding at the first of the places below n that has any
unfoldable pub first : {A : Type 0} → (ℕ → Option A) → ℕ → Option A
first at zero = None
first at (suc n) = or_else (first at n) (at n)

-- the first finding, of several in their order
abbrev pub first_of : {A : Type 0} → List (Option A) → Option A
first_of [] = None
first_of (x ∷ xs) = or_else x (first_of xs)

-- this value if there is no fault, otherwise the fault
abbrev pub unless : {A E : Type 0} → Option E → A → Result A E
unless None x = Ok x
unless (Some fault) x = Err fault
