-- The stored rows of a table. No promise of the crate rests on these words.
use Rattle.std.specs.Prelude.{ℕ, ◌≡◌, ◌<◌, ◌≤◌, ◌^◌, ◌==◌, if◌then◌else◌, min, List, length, get_or}
use Rattle.fixed_interval.specs.Ends.{Ends}
use Rattle.series_bounds.specs.Profile.{listed}
use Rattle.series_bounds.specs.Answer.{at_place}
use Rattle.moment_table.specs.declared.kinds.Row.{Row}
use Rattle.moment_table.specs.declared.stored.StoredRow.{StoredRow}
use Rattle.moment_table.specs.declared.stored.Rows.{Rows}
use Rattle.moment_table.specs.Inputs.{CanTable}
use Rattle.moment_table.specs.Profile.{empty_row, wide_row, table_rows}
use Rattle.moment_table.specs.Rows.{at_stock}

-- the stored form of a row, without its tail
abbrev pub stored_row : {f : ℕ} → Row f → StoredRow f
stored_row {f} row = record { ebo = row.ebo; vbo = row.vbo }

-- the stored row at the stock s
abbrev pub stored_at : {f : ℕ} → List (StoredRow f) → ℕ → StoredRow f
stored_at {f} stored s = get_or stored s (stored_row (empty_row f))

-- the stored rows are the first rows of the table of this mean and variance
pub record IsStored (f : ℕ) (m v : Ends) (rows : Rows f) : Type 0 where
  pub can : CanTable f m v
  pub stored : (s : ℕ) → s < length rows.stored.items → stored_at rows.stored.items s
      ≡ stored_row (at_stock (table_rows f m v) s)
  pub tails : (s : ℕ) → s < length rows.tails.items → at_place rows.tails.items s ≡ (at_stock (table_rows f m v) s).tail

-- the rows u(0) .. u(s - 1), with the tails of the first ones
pub record HasRows (f : ℕ) (u : ℕ → Row f) (s first : ℕ) (rows : Rows f) : Type 0 where
  pub stored : rows.stored.items ≡ listed (λ k. stored_row (u k)) s
  pub tails : rows.tails.items ≡ listed (λ k. (u k).tail) (min s first)

-- ends of 64 bits
pub record IsShort (f : ℕ) (row : Row f) : Type 0 where
  pub ebo : row.ebo.hi < 2 ^ 64
  pub vbo : row.vbo.hi < 2 ^ 64
  pub tail : row.tail.hi < 2 ^ 64

-- the row at the stock s of a pipeline that is always empty or whose weights are unknown
abbrev pub bare_row : (f : ℕ) → Ends → Ends → ℕ → Row f
bare_row f m v s = if m.hi == 0 then empty_row f else wide_row f m v s

-- u(0), .., u(n - 1) are the first rows of the table
abbrev pub AreRowsTo : (f : ℕ) → Ends → Ends → ℕ → (ℕ → Row f) → Type 0
AreRowsTo f m v n u = (s : ℕ) → s < n → u s ≡ at_stock (table_rows f m v) s

-- the stored forms of u(0), .., u(n) are those of the first rows of the table
abbrev pub AreStoredTo : (f : ℕ) → Ends → Ends → ℕ → (ℕ → Row f) → Type 0
AreStoredTo f m v n u = (s : ℕ) → s ≤ n → stored_row (u s) ≡ stored_row (at_stock (table_rows f m v) s)
