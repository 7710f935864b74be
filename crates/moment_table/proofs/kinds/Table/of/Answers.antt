use Rattle.std.proofs.Common.{lit<, rules}
use Rattle.fixed_interval.specs.Ends.{InScale}
use Rattle.moment_table.proofs.StoredRows.{limit_short}
use Rattle.moment_table.proofs.kinds.Table.of.Goals as goal

pub of-requires : goal.of-requires
of-requires g c =
    let s : InScale g.row.F = search rules in
    (lit< tt, (lit< tt, limit_short g.row.F c.args.mean s.1 c.requires.can.mean_top))

pub of-requires-2 : goal.of-requires-2
of-requires-2 g c =
    let s : InScale g.row.F = search rules in
    (lit< tt, (lit< tt, limit_short g.row.F c.args.variance s.1 c.requires.can.variance_top))
