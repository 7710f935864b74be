use Rattle.moment_table.proofs.Tables.{rows_enclose}
use Rattle.moment_table.proofs.tables_enclose.Goals as goal

pub returns : goal.returns
returns c = rows_enclose
