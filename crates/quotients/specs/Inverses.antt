-- The contents of a table of inverses. No promise of the crate rests on these words.
use Rattle.std.specs.Prelude.{ℕ, suc, ◌+◌, ◌*◌, ◌^◌, Bool, true, false, ◌&&◌, nat_le, nat_lt, nat_eq, List, [], ◌∷◌, length}

-- m is 2^63 / x rounded up
abbrev pub is_inverse : ℕ → ℕ → Bool
is_inverse x m = nat_le (2 ^ 63) (m * x) && nat_lt (m * x) (2 ^ 63 + x)

-- the entries are the inverses of x, x + 1, ..
abbrev pub are_inverses_from : ℕ → List ℕ → Bool
are_inverses_from x [] = true
are_inverses_from x (m ∷ ms) = is_inverse x m && are_inverses_from (suc x) ms

-- after an entry for 0, the inverses of 1 to 256
abbrev pub are_inverses : List ℕ → Bool
are_inverses [] = false
are_inverses (m ∷ ms) = nat_eq (length ms) 256 && are_inverses_from 1 ms
