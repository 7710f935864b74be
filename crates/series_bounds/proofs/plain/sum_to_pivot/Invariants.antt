use Rattle.series_bounds.specs.Walk.{SumsTo}
use Rattle.series_bounds.proofs.plain.sum_to_pivot.Given as goal

abbrev pub invariant-loop-x : goal.invariant-loop-x
invariant-loop-x g l = SumsTo g.row.F l.mean l.excess l.sum l.x
