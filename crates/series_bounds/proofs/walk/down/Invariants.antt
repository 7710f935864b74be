use Rattle.series_bounds.proofs.Walks.{Descent}
use Rattle.series_bounds.proofs.walk.down.Given as goal

abbrev pub invariant-loop-step : goal.invariant-loop-step
invariant-loop-step g l = Descent g.row.F l.mean l.excess l.list.items l.term l.step
