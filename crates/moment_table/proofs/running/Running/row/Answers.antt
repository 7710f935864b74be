use Rattle.std.proofs.Common.{◌∙◌}
use Rattle.moment_table.specs.Profile.{known_row}
use Rattle.moment_table.proofs.Steps.{row_known}
use Rattle.moment_table.proofs.running.Running.row.Goals as goal

pub returns : goal.returns
returns g c m v sum list at h =
    row_known g.row.F (known_row g.row.F m v list sum c.args.s) c.stored-stored.result c.open.result c.open-2.result c.open-3.result
    (c.stored-stored.ensures m v sum list c.args.s h) c.open.ensures c.open-2.ensures (c.open-3.ensures ∙ c.step-tail.ensures.tail m v sum list at h)
