-- Intervals whose ends have 64 bits.
use Rattle.std.specs.Prelude.{◌^◌, ◌<◌, ◌≤◌}
use Rattle.fixed_interval.specs.Ends.{Ends}

-- the ends are in order and have 64 bits
pub record IsNarrow (x : Ends) : Type 0 where
  pub ordered : x.lo ≤ x.hi
  pub room : x.hi < 2 ^ 64
