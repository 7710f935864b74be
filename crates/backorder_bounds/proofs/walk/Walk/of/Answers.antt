use Rattle.std.proofs.Common.{arith}
use Rattle.fixed_interval.proofs.Public.{unit_most}
use Rattle.backorder_bounds.proofs.walk.Walk.of.Goals as goal

pub overflow_cast-lo : goal.overflow_cast-lo
overflow_cast-lo g c = record { fits = omega (arith, c.lo.ensures.end, c.lo.ensures.valid.ordered, c.requires.table.mean_top, unit_most g.row.F c.lo.ensures.valid.most_scale) }
