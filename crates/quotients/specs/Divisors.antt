-- A divisor and its inverse. No promise of the crate rests on these words.
use Rattle.std.specs.Prelude.{ℕ, ◌≡◌, ◌+◌, ◌/◌, ◌^◌, ◌<◌, ◌≤◌}

-- a divisor of at least 1 in units of 2^-f, and its inverse in units of 2^-62, rounded down
pub record IsDivisor (f den inverse : ℕ) : Type 0 where
  pub scale : f ≤ 52
  pub least : 2 ^ f ≤ den
  pub most : den < 2 ^ 63
  pub inverse_is : inverse ≡ 2 ^ (f + 62) / den
