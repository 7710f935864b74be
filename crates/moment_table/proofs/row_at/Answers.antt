use Rattle.std.proofs.Common.{◌+◌, arith, ◌≡◌, ◌∙◌, sym, ap, subst, List}
use Rattle.fixed_interval.specs.Ends.{Ends}
use Rattle.moment_table.specs.Stored.{AreRowsTo, bare_row}
use Rattle.moment_table.specs.Profile.{known_row, table_rows}
use Rattle.moment_table.specs.Rows.{EnclosesRow, at_stock}
use Rattle.moment_table.specs.Weighed.{IsWeighed}
use Rattle.moment_table.proofs.Most.{row_is_below}
use Rattle.moment_table.proofs.Tables.{table_encloses}
use Rattle.moment_table.proofs.row_at.Goals as goal

pub returns-in-Some-clause-ends : goal.returns-in-Some-clause-ends
returns-in-Some-clause-ends g c =
    let known : IsWeighed g.row.F c.args.mean c.args.variance (c.from-stock.result + 1) c.in-Some.weighed = rw c.in-Some.is at c.in_ok-weighed.ensures.known in
    let row : c.known_row.result ≡ at_stock (table_rows g.row.F c.args.mean c.args.variance) c.args.stock =
    c.known_row.ensures ∙ ap (λ (z : List Ends). known_row g.row.F c.args.mean c.args.variance z c.in-Some.weighed.sum c.from-stock.result) c.as_slice-list.ensures.value ∙ known.rows c.from-stock.result (omega arith) ∙ ap (at_stock (table_rows g.row.F c.args.mean c.args.variance)) c.from-stock.ensures in
    row

pub returns-in-Some-clause-encloses : goal.returns-in-Some-clause-encloses
returns-in-Some-clause-encloses g c =
    subst (EnclosesRow g.row.F c.args.mean c.args.variance c.args.stock) (sym (returns-in-Some-clause-ends g c))
    (table_encloses g.row.F c.args.mean c.args.variance c.args.stock c.requires.table c.requires.stock)

pub returns-in-Some-clause-ebo_most : goal.returns-in-Some-clause-ebo_most
returns-in-Some-clause-ebo_most g c =
    (row_is_below g.row.F c.args.mean c.args.variance c.known_row.result c.args.stock (returns-in-Some-clause-ends g c) c.requires.stock).ebo

pub returns-in-Some-clause-vbo_most : goal.returns-in-Some-clause-vbo_most
returns-in-Some-clause-vbo_most g c =
    (row_is_below g.row.F c.args.mean c.args.variance c.known_row.result c.args.stock (returns-in-Some-clause-ends g c) c.requires.stock).vbo

pub returns-in-None-clause-ends : goal.returns-in-None-clause-ends
returns-in-None-clause-ends g c =
    let bare : AreRowsTo g.row.F c.args.mean c.args.variance 64 (bare_row g.row.F c.args.mean c.args.variance) = rw c.in-None.is at c.in_ok-weighed.ensures.bare in
    let row : c.bare_row.result ≡ at_stock (table_rows g.row.F c.args.mean c.args.variance) c.args.stock =
    c.bare_row.ensures ∙ ap (bare_row g.row.F c.args.mean c.args.variance) c.from-stock.ensures ∙ bare c.args.stock (omega (arith, c.requires.stock)) in
    row

pub returns-in-None-clause-encloses : goal.returns-in-None-clause-encloses
returns-in-None-clause-encloses g c =
    subst (EnclosesRow g.row.F c.args.mean c.args.variance c.args.stock) (sym (returns-in-None-clause-ends g c))
    (table_encloses g.row.F c.args.mean c.args.variance c.args.stock c.requires.table c.requires.stock)

pub returns-in-None-clause-ebo_most : goal.returns-in-None-clause-ebo_most
returns-in-None-clause-ebo_most g c =
    (row_is_below g.row.F c.args.mean c.args.variance c.bare_row.result c.args.stock (returns-in-None-clause-ends g c) c.requires.stock).ebo

pub returns-in-None-clause-vbo_most : goal.returns-in-None-clause-vbo_most
returns-in-None-clause-vbo_most g c =
    (row_is_below g.row.F c.args.mean c.args.variance c.bare_row.result c.args.stock (returns-in-None-clause-ends g c) c.requires.stock).vbo
