-- The numbers of binary places that a caller may choose.
use Rattle.std.specs.Prelude.{◌≡◌, ℕ, Bool, true, ◌==◌, ◌||◌}

-- a number of binary places that may be chosen: 32, 48 or 52
abbrev pub is_width : ℕ → Bool
is_width f = (f == 32) || (f == 48) || (f == 52)

-- the same as a statement
abbrev pub IsWidth : ℕ → Type 0
IsWidth f = is_width f ≡ true
