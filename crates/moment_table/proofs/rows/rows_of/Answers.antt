use Rattle.std.proofs.Common.{◌+◌, ap, arith, subst, List}
use Rattle.std.proofs.lemmas.Result.{IfOk-weaker}
use Rattle.fixed_interval.specs.Ends.{Ends}
use Rattle.moment_table.specs.declared.kinds.Row.{Row}
use Rattle.moment_table.specs.Stored.{AreStoredTo, AreRowsTo, HasRows, bare_row, stored_row}
use Rattle.moment_table.specs.Profile.{known_row, table_rows}
use Rattle.moment_table.specs.Rows.{at_stock}
use Rattle.moment_table.proofs.StoredRows.{rows_same}
use Rattle.moment_table.proofs.rows.rows_of.Goals as goal

pub returns-in-Some : goal.returns-in-Some
returns-in-Some g c =
    let sum = c.in-Some.sum in
    let list = c.weigh_to.new.list.items in
    let u = known_row g.row.F c.args.mean c.args.variance list sum in
    let rows : AreRowsTo g.row.F c.args.mean c.args.variance c.args.last u = rw c.in-Some.is at c.in_ok-sum.ensures.rows in
    let stored : AreStoredTo g.row.F c.args.mean c.args.variance c.args.last u = rw c.in-Some.is at c.in_ok-sum.ensures.stored in
    IfOk-weaker c.known_to.result _ _
    (λ r h. rows_same g.row.F u (at_stock (table_rows g.row.F c.args.mean c.args.variance)) (c.args.last + 1) c.args.tails r
    (λ s l. stored s (omega (arith, l))) (λ s l. ap (λ (r : Row g.row.F). r.tail) (rows s (omega (arith, l, c.requires.tails))))
    (subst (λ (z : List Ends). HasRows g.row.F (known_row g.row.F c.args.mean c.args.variance z sum) (c.args.last + 1) c.args.tails r)
    c.as_slice.ensures.value h)) c.known_to.ensures

pub returns-in-None : goal.returns-in-None
returns-in-None g c =
    let bare : AreRowsTo g.row.F c.args.mean c.args.variance 64 (bare_row g.row.F c.args.mean c.args.variance) = rw c.in-None.is at c.in_ok-sum.ensures.bare in
    IfOk-weaker c.bare_to.result _ _
    (λ r. rows_same g.row.F (bare_row g.row.F c.args.mean c.args.variance) (at_stock (table_rows g.row.F c.args.mean c.args.variance))
    (c.args.last + 1) c.args.tails r (λ s l. ap (λ (r : Row g.row.F). stored_row r) (bare s (omega (arith, l, c.requires.last))))
    (λ s l. ap (λ (r : Row g.row.F). r.tail) (bare s (omega (arith, l, c.requires.tails, c.requires.last))))) c.bare_to.ensures
