use Rattle.series_bounds.specs.Answer.{IsSum}
use Rattle.moment_table.specs.Running.{IsRunning, AreSmall, all_weights}
use Rattle.moment_table.proofs.plain.known.Given as goal

abbrev pub invariant-loop-s : goal.invariant-loop-s
invariant-loop-s g l =
    let sum = l.running.falling.shares in
    record {
      is_sum : IsSum g.row.F l.mean l.excess sum;
      running : IsRunning g.row.F l.mean l.fn.variance (all_weights g.row.F l.mean l.excess) sum l.s l.running;
      small : AreSmall g.row.F l.s l.running.falling;
    }
