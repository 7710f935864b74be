use Rattle.series_bounds.proofs.Unlisted.{Climb}
use Rattle.series_bounds.proofs.plain.sum_past.Given as goal

abbrev pub invariant-loop-x : goal.invariant-loop-x
invariant-loop-x g l = Climb g.row.F l.mean l.excess l.last l.sum l.x
