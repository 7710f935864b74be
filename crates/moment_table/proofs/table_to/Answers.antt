use Rattle.std.proofs.Common.{◌≡◌, ◌+◌, ◌∙◌, ap₂, length, List, ℕ, lit<, rules}
use Rattle.moment_table.specs.declared.kinds.Row.{Row}
use Rattle.moment_table.specs.Profile.{table_rows}
use Rattle.moment_table.specs.Rows.{at_stock}
use Rattle.moment_table.proofs.Enclosure.{length_table}
use Rattle.moment_table.proofs.StoredRows.{count_stored, rows_stored}
use Rattle.moment_table.proofs.Most.{rows_below}
use Rattle.moment_table.proofs.Tables.{rows_enclose}
use Rattle.moment_table.proofs.table_to.Goals as goal

pub of-requires : goal.of-requires
of-requires g c = (lit< tt, (lit< tt, (lit< tt, rows_stored g.row.F c.args.mean c.args.variance _ _ c.in_ok-rows.rows c.requires.table c.in_ok-rows.ensures)))

pub returns-clause-ends : goal.returns-clause-ends
returns-clause-ends g c =
    let rows = table_rows g.row.F c.args.mean c.args.variance in
    let stored : length c.in_ok-rows.rows.stored.items ≡ c.args.limit + 1 = count_stored g.row.F (at_stock rows) _ _ c.in_ok-rows.rows c.in_ok-rows.ensures ∙ search rules in
    ap₂ (λ (r : List (Row g.row.F)) (n : ℕ). record { rows = r; stored = n }) c.of.ensures.rows (c.of.ensures.stored ∙ stored)

pub returns-clause-encloses : goal.returns-clause-encloses
returns-clause-encloses g c = rw c.of.ensures.rows (rows_enclose g.row.F c.args.mean c.args.variance c.requires.table)

pub returns-clause-stocks : goal.returns-clause-stocks
returns-clause-stocks g c = length_table g.row.F c.args.mean c.args.variance c.of.result.rows c.of.ensures.rows

pub returns-clause-most : goal.returns-clause-most
returns-clause-most g c = rows_below g.row.F c.args.mean c.args.variance c.of.result.rows c.of.ensures.rows
