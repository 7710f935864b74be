-- No row of a table is above the ends that the table begins with.
use Rattle.std.proofs.Common.{◌≡◌, ℕ, zero, suc, ◌<◌, ◌≤◌, ◌==◌, List, sym, arith, subst}
use Rattle.std.proofs.lemmas.Bool.{cond_both}
use Rattle.fixed_interval.specs.Ends.{Ends, ends_max}
use Rattle.series_bounds.specs.Profile.{listed, weights_of}
use Rattle.series_bounds.specs.declared.kinds.Weights.{Weights}
use Rattle.series_bounds.specs.declared.kinds.Weights.TheVariants.{Known, Wide}
use Rattle.series_bounds.proofs.Public.{listed_at}
use Rattle.moment_table.specs.declared.kinds.Row.{Row}
use Rattle.moment_table.specs.Profile.{ebo_ends, empty_row, excess_ends, known_row, row_from, table_rows, vbo_ends, wide_row}
use Rattle.moment_table.specs.Rows.{IsBelow, at_stock}

-- backorders from known weights are at most the mean
pub ebo_below : (f : ℕ) (m : Ends) (list : List Ends) (sum : Ends) (s : ℕ) → (ebo_ends f m list sum s).hi ≤ m.hi
unfolding ebo_ends
ebo_below f m list sum zero = omega arith
ebo_below f m list sum (suc s) = omega (arith, ebo_below f m list sum s)

-- the variance of backorders from known weights is at most the larger of variance and mean
pub vbo_below : (f : ℕ) (m v : Ends) (list : List Ends) (sum : Ends) (s : ℕ) → (vbo_ends f m v list sum s).hi ≤ (ends_max v m).hi
unfolding vbo_ends
vbo_below f m v list sum zero = omega arith
vbo_below f m v list sum (suc s) = omega (arith, vbo_below f m v list sum s)

row_below : (f : ℕ) (m v : Ends) (weights : Weights f) (s : ℕ) → IsBelow f m v (row_from f m v weights s)
unfolding row_from known_row wide_row
row_below f m v (Known pivot list sum) s = record { ebo = ebo_below f m list sum s; vbo = vbo_below f m v list sum s }
row_below f m v Wide s = record { ebo = omega arith; vbo = omega arith }

empty_below : (f : ℕ) (m v : Ends) → IsBelow f m v (empty_row f)
unfolding empty_row
empty_below f m v = record { ebo = omega arith; vbo = omega arith }

at_below : (f : ℕ) (m v : Ends) (g : ℕ → Row f) (s : ℕ) → s < 64 → IsBelow f m v (g s) → IsBelow f m v (at_stock (listed g 64) s)
at_below f m v g s l h = subst (λ z. IsBelow f m v z) (sym (listed_at g 64 s (empty_row f) l)) h

table_below : (f : ℕ) (m v : Ends) (s : ℕ) → s < 64 → IsBelow f m v (at_stock (table_rows f m v) s)
unfolding table_rows
table_below f m v s l =
    cond_both (m.hi == 0) (listed (λ s. empty_row f) 64) (listed (row_from f m v (weights_of f m (excess_ends f m v))) 64) (λ z. IsBelow f m v (at_stock z s))
    (λ h. at_below f m v (λ s. empty_row f) s l (empty_below f m v))
    (λ h. at_below f m v (row_from f m v (weights_of f m (excess_ends f m v))) s l (row_below f m v (weights_of f m (excess_ends f m v)) s))

-- no row of a table has more backorders than the mean, or a variance above the larger of variance and mean
pub rows_below : (f : ℕ) (m v : Ends) (rows : List (Row f)) → rows ≡ table_rows f m v → (s : ℕ) → s < 64 → IsBelow f m v (at_stock rows s)
rows_below f m v rows e s l = rw e (table_below f m v s l)

-- the same of a row by itself that is the table's at its stock
pub row_is_below : (f : ℕ) (m v : Ends) (row : Row f) (s : ℕ) → row ≡ at_stock (table_rows f m v) s → s ≤ 63 → IsBelow f m v row
row_is_below f m v row s e l = rw e (table_below f m v s (omega arith))
