use Rattle.moment_table.proofs.Steps.{stored_known}
use Rattle.moment_table.proofs.running.Running.stored.Goals as goal

pub returns : goal.returns
returns g c m v sum list s h = stored_known g.row.F m v list sum s c.args.self.now h c.expected.result c.expected.ensures
