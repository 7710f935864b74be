use Rattle.std.proofs.Common.{arith}
use Rattle.fixed_interval.proofs.Public.{unit_most}
use Rattle.backorder_bounds.proofs.walk.Walk.begin.Goals as goal

pub overflow_cast-mean : goal.overflow_cast-mean
overflow_cast-mean g c =
    record { fits = omega (arith, c.lo-mean.ensures.end, c.lo-mean.ensures.valid.ordered, c.self.invariant.mean_top, unit_most g.row.F c.lo-mean.ensures.valid.most_scale) }
