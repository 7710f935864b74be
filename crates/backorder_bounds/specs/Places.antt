-- The stocks of a pipeline's table.
use Rattle.std.specs.Prelude.{ℕ, ◌+◌}
use Rattle.fixed_interval.specs.Ends.{Ends}
use Rattle.moment_table.specs.Profile.{table_rows}
use Rattle.moment_table.specs.Rows.{at_stock}

-- a stock, and the mean and the variance of the pipeline
pub record Place : Type 0 where
  pub mean : Ends
  pub variance : Ends
  pub stock : ℕ

-- the lower end of the table's backorders at this stock
abbrev pub low_end : ℕ → Place → ℕ
low_end f p = (at_stock (table_rows f p.mean p.variance) p.stock).ebo.lo

-- the next stock
abbrev pub next_place : Place → Place
next_place p = record { mean = p.mean; variance = p.variance; stock = p.stock + 1 }
