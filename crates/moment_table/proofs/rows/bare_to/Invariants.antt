use Rattle.moment_table.specs.Stored.{HasRows, bare_row}
use Rattle.moment_table.proofs.rows.bare_to.Given as goal

abbrev pub invariant-loop-s : goal.invariant-loop-s
invariant-loop-s g l = HasRows g.row.F (bare_row g.row.F l.mean l.variance) l.s l.tails l.rows
