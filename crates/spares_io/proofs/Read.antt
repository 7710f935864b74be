-- A reader that gives at most so many bytes.
use Rattle.std.proofs.Common.{◌≡◌, ℕ, ◌+◌, ◌≤◌, List, [], ◌++◌, length, take, Option, Some, None, IfSome, arith}
use Rattle.std.proofs.lemmas.Grind.{common_steps}
use Rattle.std.specs.Option.{option_map}

-- what was read through a longer limit is all there was, if it is within the limit
pub read_all : (left : Option (List ℕ)) (before into : List ℕ) (limit n : ℕ) → before ≡ [] → n ≡ limit + 1 → length into ≤ limit
    → IfSome (option_map (take n) left) (λ xs. into ≡ before ++ xs) → IfSome left (λ bytes. into ≡ bytes)
read_all None before into limit n empty longer within given = tt
read_all (Some bytes) before into limit n empty longer within given = grind (arith, common_steps)
