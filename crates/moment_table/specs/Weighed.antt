-- The weights of a table as found. No promise of the crate rests on these words.
use Rattle.std.specs.Prelude.{ℕ, ◌^◌, ◌≤◌}
use Rattle.fixed_interval.specs.Ends.{Ends}
use Rattle.moment_table.specs.declared.weighed.Weighed.{Weighed}
use Rattle.moment_table.specs.Stored.{AreRowsTo}
use Rattle.moment_table.specs.Profile.{known_row}
use Rattle.moment_table.specs.Running.{AreFirst}

-- at least n first weights, which with the sum of all determine the first n rows of the table
pub record IsWeighed (f : ℕ) (m v : Ends) (n : ℕ) (weighed : Weighed f) : Type 0 where
  pub rows : AreRowsTo f m v n (known_row f m v weighed.list.items weighed.sum)
  pub first : AreFirst f n weighed.list.items
  pub least : 2 ^ f ≤ weighed.sum.lo
