use Rattle.std.proofs.Common.{◌≡◌, ◌+◌, ◌*◌, ◌^◌, ◌<◌, ◌≤◌, ℕ}
use Rattle.fixed_interval.specs.Ends.{Ends}
use Rattle.backorder_bounds.specs.Lead.{AreOver, IsReached, IsStart}
use Rattle.backorder_bounds.proofs.sums.inverse_of_sum.Given as goal

abbrev pub invariant-loop-k : goal.invariant-loop-k
invariant-loop-k l = record {
  above : l.reached.above ≡ l.over.first + l.over.step * l.k;
  ratio : l.reached.above < (2 ^ 36 + 255) * (l.k + 1);
  last : l.reached.last + 2 ^ 16 ≤ 8 * 2 ^ 36 + l.k * 2 ^ 12;
  sum : l.reached.sum ≤ l.k * 2 ^ 40;
  pivot : l.fn.start.pivot ≤ l.k;
  few : l.k ≤ 12;
  reached : (f : ℕ) (m d : Ends) → AreOver f m d l.over → IsStart f m d l.fn.start → IsReached f m d l.k l.reached.sum l.reached.last;
}
