use Rattle.std.proofs.Common.{refl}
use Rattle.series_bounds.proofs.Bounds.{pivot_is}
use Rattle.series_bounds.proofs.pivot_of.Goals as goal

pub returns-clause-place : goal.returns-clause-place
returns-clause-place g c =
    pivot_is g.row.F c.args.mean c.args.excess _ c.lo.result c.unit-unit.result c.less.result c.lo.ensures.end c.less.ensures.ends c.unit-unit.ensures refl
