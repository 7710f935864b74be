use Rattle.std.proofs.Common.{◌*◌, ◌^◌, ◌≤◌}
use Rattle.log_loss.proofs.LowEnds.{AreBelow}
use Rattle.log_loss.proofs.low.low_series.Given as goal

abbrev pub invariant-loop-k : goal.invariant-loop-k
invariant-loop-k l = record {
  below : AreBelow l.fn.share l.k l.power l.sum;
  power_most : l.power ≤ 2 ^ 48;
  sum_most : l.sum ≤ l.k * 2 ^ 48;
}
