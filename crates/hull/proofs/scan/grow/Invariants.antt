use Rattle.std.proofs.Common.{◌≤◌, [], ◌∷◌, ◌++◌, map, vec_len, vec_capacity}
use Rattle.hull.specs.declared.point.Point.{Point}
use Rattle.hull.specs.Curves.{Among, StandFor, IsChain, InRange}
use Rattle.hull.proofs.scan.grow.Given as goal

abbrev pub invariant-pops : goal.invariant-pops
invariant-pops g l = record {
  chain : IsChain (map g.T.Spot.point l.stack.items);
  order : (v : Point) → Among v (map g.T.Spot.point l.stack.items) → v.cost ≤ (g.T.Spot.point l.point).cost;
  ranges : (v : Point) → Among v (map g.T.Spot.point l.stack.items) → InRange v;
  stands : StandFor (map g.T.Spot.point l.initial.stack.items ++ g.T.Spot.point l.point ∷ []) (map g.T.Spot.point l.stack.items ++ g.T.Spot.point l.point ∷ []);
  len : vec_len l.stack ≤ vec_len l.initial.stack;
  capacity : vec_capacity l.initial.stack ≤ vec_capacity l.stack;
}

abbrev pub decreases-pops : goal.decreases-pops
decreases-pops g l = vec_len l.stack
