use Rattle.std.proofs.Common.{sym}
use Rattle.csv_tables.specs.Rest.{rest_of}
use Rattle.csv_tables.proofs.TableFacts.{ended, taken, rows_none, rows_fault, rows_many, rows_row}
use Rattle.csv_tables.proofs.table.put_rows.Goals as goal

pub returns-then-not-branch : goal.returns-then-not-branch
returns-then-not-branch g c =
    rows_none (g.T.Table.row_of c.args.table.now) c.args.limit c.args.columns c.loop-row.row c.loop-row.rows.items _ (rest_of c.loop-row.rdr)
    (ended _ _ _ _ c.in_ok-next_record.ensures.takes c.if-not-branch.true) c.loop-row.invariant.so_far

pub returns-in-Err : goal.returns-in-Err
returns-in-Err g c =
    rows_fault (g.T.Table.row_of c.args.table.now) c.args.limit c.args.columns c.loop-row.row c.loop-row.rows.items _ (rest_of c.loop-row.rdr) _ _ c.in-Err.fault
    (taken _ _ _ _ c.in_ok-next_record.ensures.takes c.if-not-branch.false) c.loop-row-test.true (sym c.in-Err.ensures) c.loop-row.invariant.so_far

pub loop-row-preserved : goal.loop-row-preserved
loop-row-preserved g c = record {
  reader = c.in_ok-next_record.ensures.table c.if-not-branch.false;
  so_far =
      rw c.in_ok-push-in-Ok.ensures.items (rows_row (g.T.Table.row_of c.args.table.now) c.args.limit c.args.columns c.loop-row.row c.loop-row.rows.items _ (rest_of c.loop-row.rdr) _ _ c.in-Ok.found
      (taken _ _ _ _ c.in_ok-next_record.ensures.takes c.if-not-branch.false) c.loop-row-test.true (sym c.in-Ok.ensures) c.loop-row.invariant.so_far);
}

pub returns-then-branch : goal.returns-then-branch
returns-then-branch g c =
    rows_many (g.T.Table.row_of c.args.table.now) c.args.limit c.args.columns c.loop-row.row c.loop-row.rows.items _ (rest_of c.loop-row.rdr) _ _
    (taken _ _ _ _ c.in_ok-next_record-2.ensures.takes c.if-branch.true) c.loop-row-test.false c.loop-row.invariant.so_far

pub returns : goal.returns
returns g c =
    rows_none (g.T.Table.row_of c.args.table.now) c.args.limit c.args.columns c.loop-row.row c.loop-row.rows.items _ (rest_of c.loop-row.rdr)
    (ended _ _ _ _ c.in_ok-next_record-2.ensures.takes c.if-branch.false) c.loop-row.invariant.so_far
