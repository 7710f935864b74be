use Rattle.std.proofs.Common.{arith}
use Rattle.series_bounds.proofs.Unlisted.{sum_least}
use Rattle.series_bounds.proofs.plain.sum_of_weights.Goals as goal

pub returns-clause-least : goal.returns-clause-least
returns-clause-least g c =
    sum_least g.row.F c.args.mean c.args.excess c.in_ok-sum.sum (omega (arith, c.pivot_of-pivot.ensures.place, c.pivot_of-pivot.ensures.most)) c.in_ok-sum.ensures.known
