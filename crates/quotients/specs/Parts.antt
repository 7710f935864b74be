-- Numbers in parts.
use Rattle.std.specs.Prelude.{ℕ, ◌≡◌, ◌+◌, ◌*◌, ◌<◌}
use Rattle.quotients.specs.declared.parts.Parts.{Parts}

-- the quotient of num by den, and its remainder
pub record AreParts (num den : ℕ) (parts : Parts) : Type 0 where
  pub sum : parts.whole * den + parts.rest ≡ num
  pub rest : parts.rest < den
