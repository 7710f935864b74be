use Rattle.moment_table.specs.Stored.{HasRows}
use Rattle.moment_table.specs.Running.{IsRunning, AreSmall}
use Rattle.moment_table.specs.Profile.{known_row}
use Rattle.moment_table.proofs.rows.known_to.Given as goal

abbrev pub invariant-loop-s : goal.invariant-loop-s
invariant-loop-s g l = record {
  rows : HasRows g.row.F (known_row g.row.F l.fn.mean l.fn.variance l.list l.fn.sum) l.s l.tails l.rows;
  running : IsRunning g.row.F l.fn.mean l.fn.variance l.list l.fn.sum l.s l.running;
  small : AreSmall g.row.F l.s l.running.falling;
}
