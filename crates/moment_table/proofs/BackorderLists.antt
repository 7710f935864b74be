-- A list of backorders, from the rows that it is made of.
use Rattle.std.proofs.Common.{◌≡◌, ℕ, ◌+◌, ◌<◌, ◌≤◌, List, length, sym, ap, ◌∙◌, arith, subst}
use Rattle.exact_model.specs.Series.{ebo}
use Rattle.fixed_interval.specs.Ends.{Ends, In}
use Rattle.series_bounds.specs.Profile.{listed}
use Rattle.series_bounds.specs.Answer.{at_place}
use Rattle.series_bounds.proofs.Public.{listed_at, length_listed}
use Rattle.moment_table.specs.declared.stored.StoredRow.{StoredRow}
use Rattle.moment_table.specs.declared.kinds.Row.{Row}
use Rattle.moment_table.specs.Stored.{AreStoredTo}
use Rattle.moment_table.specs.Inputs.{CanTable}
use Rattle.moment_table.specs.Profile.{ebo_ends, known_row}
use Rattle.moment_table.specs.Rows.{AreBackorders, EncloseBackorders}
use Rattle.moment_table.proofs.Tables.{table_encloses}

entry : (f : ℕ) (g : ℕ → Row f) (list : List Ends) (n s : ℕ) → list ≡ listed (λ s. (g s).ebo) n → s < n → at_place list s ≡ (g s).ebo
entry f g list n s e l = ap (λ z. at_place z s) e ∙ listed_at (λ s. (g s).ebo) n s (record { lo = 0; hi = 0 }) l

-- the backorders of the first rows of a table are those at the stocks 0 to limit
pub are_backorders : (f : ℕ) (m v : Ends) (g : ℕ → Row f) (list : List Ends) (n limit : ℕ) → n ≡ limit + 1 → list ≡ listed (λ s. (g s).ebo) n
    → AreStoredTo f m v limit g → AreBackorders f m v limit list
are_backorders f m v g list n limit en e h = record {
  count = ap length e ∙ length_listed (λ s. (g s).ebo) n ∙ en;
  ends = λ s i. entry f g list n s e (omega (arith, i, en)) ∙ ap (λ (r : StoredRow f). r.ebo) (h s i);
}

-- backorders from known weights are those of the rows
pub of_rows : (f : ℕ) (m v : Ends) (weights : List Ends) (sum : Ends) (list : List Ends) (n : ℕ) → list ≡ listed (ebo_ends f m weights sum) n
    → list ≡ listed (λ s. (known_row f m v weights sum s).ebo) n
unfolding known_row
of_rows f m v weights sum list n e = e

-- the backorders of a table enclose the model's, at each of its stocks
pub enclose_backorders : (f : ℕ) (m v : Ends) (limit : ℕ) (list : List Ends) → limit ≤ 63 → CanTable f m v → AreBackorders f m v limit list → EncloseBackorders f m v list
enclose_backorders f m v limit list l can h u w a b d deep s i =
    let k : s ≤ limit = omega (arith, i, h.count) in
    subst (λ z. In f z (ebo d u w s)) (sym (h.ends s k)) (table_encloses f m v s can (omega (arith, k, l)) u w a b d deep).ebo
