use Rattle.std.proofs.Common.{◌≡◌, ◌+◌, ◌*◌, ◌^◌, ◌≤◌, ℕ}
use Rattle.fixed_interval.specs.Ends.{Ends}
use Rattle.backorder_bounds.specs.Lead.{AreOver, IsReached, IsStart}
use Rattle.backorder_bounds.proofs.sums.risen.Given as goal

abbrev pub invariant-loop-k : goal.invariant-loop-k
invariant-loop-k l = record {
  above : l.reached.above ≡ l.over.first + l.over.step * l.k;
  small : l.reached.above ≤ (8 + l.k) * 2 ^ 36;
  most : l.reached.last ≤ 8 * 2 ^ 36;
  sum : l.reached.sum ≤ l.k * 2 ^ 40;
  reached : (f : ℕ) (m d : Ends) → AreOver f m d l.over → IsStart f m d l.start → IsReached f m d l.k l.reached.sum l.reached.last;
}
