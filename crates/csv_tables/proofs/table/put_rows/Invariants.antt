use Rattle.std.proofs.Common.{◌≡◌}
use Rattle.csv_tables.specs.Rest.{IsTable, rest_of}
use Rattle.csv_tables.specs.Tables.{rows_from}
use Rattle.csv_tables.proofs.TableFacts.{prepend}
use Rattle.csv_tables.proofs.table.put_rows.Given as goal

abbrev pub invariant-loop-row : goal.invariant-loop-row
invariant-loop-row g l = record {
  reader : IsTable l.rdr;
  so_far : prepend l.rows.items (rows_from (g.T.Table.row_of l.table) l.limit l.columns l.row (rest_of l.rdr)) ≡ rows_from (g.T.Table.row_of l.table) l.limit l.columns 2 (rest_of l.fn.rdr);
}
