use Rattle.std.proofs.Common.{◌∙◌, lit<, rules}
use Rattle.fixed_interval.specs.Ends.{InScale}
use Rattle.moment_table.proofs.StoredRows.{limit_short}
use Rattle.moment_table.proofs.Steps.{falling_first}
use Rattle.moment_table.proofs.running.Falling.first.Goals as goal

pub of-requires : goal.of-requires
of-requires g c =
    let s : InScale g.row.F = search rules in
    (lit< tt, (lit< tt, limit_short g.row.F c.args.mean s.1 c.requires.mean_top))

pub returns-clause-falling : goal.returns-clause-falling
returns-clause-falling g c list =
    rw c.of.ensures (falling_first g.row.F c.args.mean list c.args.sum c.of-2.result c.of-3.result (c.of-2.ensures ∙ c.exact.ensures.ends) c.of-3.ensures)
