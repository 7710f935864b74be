use Rattle.std.proofs.Common.{ap, arith, lit<}
use Rattle.fixed_interval.specs.Ends.{Ends}
use Rattle.fixed_interval.proofs.Public.{unit_most}
use Rattle.series_bounds.proofs.short.Iv64.one.Goals as goal

pub of-requires : goal.of-requires
of-requires g c = (lit< tt, omega (arith, ap (λ (z : Ends). z.hi) c.exact.ensures.ends, unit_most g.row.F c.requires.1))
