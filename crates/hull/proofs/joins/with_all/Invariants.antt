use Rattle.std.proofs.Common.{◌≡◌, ◌+◌, ◌≤◌, ◌++◌, length, vec_len, vec_capacity}
use Rattle.hull.proofs.joins.with_all.Given as goal

abbrev pub invariant-loop-point : goal.invariant-loop-point
invariant-loop-point g l = record {
  items : l.stack.items ++ l.left.items ≡ l.initial.stack.items ++ l.initial.left.items;
  room : vec_len l.stack + length l.left.items ≤ vec_capacity l.stack;
}

abbrev pub decreases-loop-point : goal.decreases-loop-point
decreases-loop-point g l = length l.left.items
