use Rattle.std.proofs.Common.{◌+◌, ◌<◌, ◌≤◌, ◌⊎◌, ◌++◌, map, length, vec_len, vec_capacity}
use Rattle.hull.specs.Curves.{IsChain}
use Rattle.hull.proofs.Joined.{Joined}
use Rattle.hull.proofs.joins.scan_both.Given as goal

abbrev pub invariant-loop-point : goal.invariant-loop-point
invariant-loop-point g l = record {
  joined : Joined (map g.T.Spot.point l.initial.stack.items ++ (map g.T.Spot.point l.fn.left.items ++ map g.T.Spot.point l.fn.right.items)) (map g.T.Spot.point l.stack.items) (map g.T.Spot.point l.left.items) (map g.T.Spot.point l.right.items);
  left_chain : IsChain (map g.T.Spot.point l.left.items);
  room : vec_len l.stack + (length l.left.items + length l.right.items) ≤ vec_len l.initial.stack + (vec_len l.fn.left + vec_len l.fn.right);
  capacity : vec_len l.initial.stack + (vec_len l.fn.left + vec_len l.fn.right) ≤ vec_capacity l.stack;
  some : (0 < vec_len l.stack) ⊎ (0 < length l.right.items);
}

abbrev pub decreases-loop-point : goal.decreases-loop-point
decreases-loop-point g l = length l.left.items + length l.right.items
