-- The contents of a shelf, and the effects of its calls.
use Rattle.std.specs.Prelude.{Bool, true, false, Result, Ok, Err, ◌≡◌, ◌<◌, ℕ, List, length, Option, Some, None, IfSome, IsSomeAnd}
use Rattle.std.specs.Ordering.{nat_cmp}
use Rattle.std.specs.Cmp.Lexicographic.{slice_cmp}
use Rattle.std.specs.FinMap.{FinMap, get, insert, remove}
use Rattle.std.specs.Option.{option_map}
use Rattle.spares_io.specs.declared.shelf.ShelfError.{ShelfError}
use Rattle.spares_io.specs.declared.shelf.ShelfError.TheVariants.{NoMemory, Failed, TooLong}

-- a finite map from the bytes of a name to its contents
abbrev pub Files : Type 0
Files = FinMap (slice_cmp nat_cmp) (List ℕ)

-- the contents of a shelf that contracts don't know
abbrev pub untold : Option Files
untold = None

-- the bytes of a name
abbrev pub file_of : Files → List ℕ → Option (List ℕ)
file_of files name = get files name

-- that name has these bytes, and all others are as before
abbrev pub with_file : Files → List ℕ → List ℕ → Files
with_file files name bytes = insert files name bytes

-- all names but that one are as before
abbrev pub KeepsOthers : List ℕ → Option Files → Option Files → Type 0
KeepsOthers name old new =
    option_map (λ files. remove files name) new ≡ option_map (λ files. remove files name) old

-- if the contents are known, the name has exactly these bytes
abbrev pub Holds : Option Files → List ℕ → List ℕ → Type 0
Holds held name bytes = IfSome held (λ files. file_of files name ≡ Some bytes)

-- the contents are known, without this name
abbrev pub Lacks : Option Files → List ℕ → Type 0
Lacks held name = IsSomeAnd held (λ files. file_of files name ≡ None)

-- if the contents are known, the name has more bytes than the limit
abbrev pub HoldsMore : Option Files → List ℕ → ℕ → Type 0
HoldsMore held name limit =
    IfSome held (λ files. IsSomeAnd (file_of files name) (λ bytes. limit < length bytes))

-- whether a call of a shelf failed for another reason than memory or length
abbrev pub is_failed : Result Unit ShelfError → Bool
is_failed (Ok _) = false
is_failed (Err NoMemory) = false
is_failed (Err Failed) = true
is_failed (Err TooLong) = false
