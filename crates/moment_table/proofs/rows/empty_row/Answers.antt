use Rattle.moment_table.proofs.Steps.{empty_is}
use Rattle.moment_table.proofs.rows.empty_row.Goals as goal

pub returns : goal.returns
returns g c = empty_is g.row.F c.exact-none.result c.exact-none.ensures.ends
