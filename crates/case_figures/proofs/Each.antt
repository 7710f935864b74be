-- What holds of each element of lists that are made of ranges.
use Rattle.std.proofs.Common.{ℕ, List, [], ◌∷◌}
use Rattle.std.specs.Prelude.{flat_map}
use Rattle.std.specs.List.{AllByRecursion}
use Rattle.list_laws.proofs.Public.{each_append}

-- what holds along each of several lists holds along them all, one after the other
pub each_flat : {A : Type 0} (P : A → Type 0) (f : ℕ → List A) (xs : List ℕ) → AllByRecursion (λ x. AllByRecursion P (f x)) xs → AllByRecursion P (flat_map f xs)
each_flat P f [] h = tt
each_flat P f (x ∷ xs) h = each_append P (f x) (flat_map f xs) h.0 (each_flat P f xs h.1)
