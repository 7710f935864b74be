use Rattle.std.proofs.Common.{ap, map}
use Rattle.csv_tables.specs.Tables.{rows_of, table_of}
use Rattle.csv_tables.proofs.TableFacts.{ended, header_refused, rows_after, taken}
use Rattle.csv_tables.proofs.table.read_records.Goals as goal

pub returns-then-not-branch : goal.returns-then-not-branch
returns-then-not-branch g c =
    ap (table_of (g.T.Table.row_of c.args.table.now) c.args.limit c.args.least (map (λ f. f.now) c.args.header.now))
    (ended _ _ _ _ c.in_ok-next_record.ensures.takes c.if-not-branch.true)

pub returns-in-Ok : goal.returns-in-Ok
returns-in-Ok g c =
    rows_after (g.T.Table.row_of c.args.table.now) c.args.limit c.args.least _ _ _ _ c.in-Ok.columns (rows_of c.read_rows.result)
    (taken _ _ _ _ c.in_ok-next_record.ensures.takes c.if-not-branch.false) c.in-Ok.ensures c.read_rows.ensures

pub returns-in-Err : goal.returns-in-Err
returns-in-Err g c =
    header_refused (g.T.Table.row_of c.args.table.now) c.args.limit c.args.least _ _ _ _ c.in-Err.fault
    (taken _ _ _ _ c.in_ok-next_record.ensures.takes c.if-not-branch.false) c.in-Err.ensures
