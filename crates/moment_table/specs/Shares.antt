-- The divisors by which shares of a sum are taken. No promise of the crate rests on these words.
use Rattle.std.specs.Prelude.{ℕ, ◌≡◌, ◌≤◌}
use Rattle.fixed_interval.specs.Ends.{Ends}
use Rattle.moment_table.specs.declared.shares.Divisors.{Divisors}

-- the divisors are the ends of the sum, in their order
pub record AreEnds (f : ℕ) (sum : Ends) (divisors : Divisors f) : Type 0 where
  pub lower : divisors.lower ≡ sum.lo
  pub upper : divisors.upper ≡ sum.hi
  pub ordered : divisors.lower ≤ divisors.upper
