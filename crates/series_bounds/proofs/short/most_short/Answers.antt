use Rattle.std.proofs.Common.{arith}
use Rattle.fixed_interval.proofs.Public.{unit_most}
use Rattle.series_bounds.proofs.short.most_short.Goals as goal

pub overflow_cast-result : goal.overflow_cast-result
overflow_cast-result g c = record { fits = omega (arith, c.most_weight.ensures, unit_most g.row.F c.requires.1) }
