use Rattle.moment_table.specs.Running.{IsRunning, AreSmall}
use Rattle.moment_table.proofs.rows.known_row.Given as goal

abbrev pub invariant-loop-s : goal.invariant-loop-s
invariant-loop-s g l = record {
  running : IsRunning g.row.F l.fn.mean l.fn.variance l.list l.fn.sum l.s l.running;
  small : AreSmall g.row.F l.s l.running.falling;
}
