use Rattle.std.proofs.Common.{◌+◌, ◌<◌, ◌≤◌, ◌⊎◌, map, length, vec_len, vec_capacity}
use Rattle.std.specs.Vec.Iter.{into_iter_items}
use Rattle.hull.proofs.Runs.{Scanned}
use Rattle.hull.proofs.scan.scan.Given as goal

abbrev pub invariant-loop-point : goal.invariant-loop-point
invariant-loop-point g l = record {
  can : (goal.iterator-loop-point g).can_next l.point-iterator;
  ends : (goal.iterator-loop-point g).is_finite l.point-iterator;
  scanned : Scanned (map g.T.Spot.point l.fn.points.items) (map g.T.Spot.point l.stack.items) (map g.T.Spot.point (into_iter_items l.point-iterator));
  room : vec_len l.stack + length (into_iter_items l.point-iterator) ≤ vec_len l.fn.points;
  capacity : vec_len l.fn.points ≤ vec_capacity l.stack;
  some : (0 < vec_len l.stack) ⊎ (0 < length (into_iter_items l.point-iterator));
}
