-- Steps that may refuse, one after the other.
use Rattle.std.proofs.Common.{◌≡◌, Option, Some, None, Result, refl}
use Rattle.answers.specs.declared.stop.Stop.{Stop}
use Rattle.spares_input.specs.First.{or_else}
use Rattle.spares_input.specs.Building.{StopsAt}

or_else_nothing : {A : Type 0} (o : Option A) → or_else o None ≡ o
or_else_nothing None = refl
or_else_nothing (Some x) = refl

-- the last step says what the whole answers, where the steps before it went on
pub stops_last : {T E : Type 0} (before last : Option E) (r : Result T (Stop E)) → before ≡ None → StopsAt last r
    → StopsAt (or_else before (or_else last None)) r
stops_last before last r e h = rw (e, or_else_nothing last) h
