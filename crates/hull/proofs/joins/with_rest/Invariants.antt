use Rattle.std.proofs.Common.{◌+◌, ◌<◌, ◌≤◌, [], ◌++◌, map, length, vec_len, vec_capacity, IsTrue}
use Rattle.hull.specs.Curves.{IsChain}
use Rattle.hull.proofs.Joined.{Joined, Follows}
use Rattle.hull.proofs.joins.with_rest.Given as goal

abbrev pub invariant-loop-point : goal.invariant-loop-point
invariant-loop-point g l = record {
  joined : Joined (map g.T.Spot.point l.initial.stack.items ++ map g.T.Spot.point l.initial.left.items) (map g.T.Spot.point l.stack.items) (map g.T.Spot.point l.left.items) [];
  left_chain : IsChain (map g.T.Spot.point l.left.items);
  follows : IsTrue l.follows → Follows (map g.T.Spot.point l.stack.items) (map g.T.Spot.point l.left.items);
  room : vec_len l.stack + length l.left.items ≤ vec_len l.initial.stack + length l.initial.left.items;
  capacity : vec_len l.initial.stack + length l.initial.left.items ≤ vec_capacity l.stack;
  some : 0 < vec_len l.stack;
}

abbrev pub decreases-loop-point : goal.decreases-loop-point
decreases-loop-point g l = length l.left.items
