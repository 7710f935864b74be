use Rattle.std.proofs.Common.{◌≡◌, ℕ, ◌<◌, ◌≤◌}
use Rattle.hull.specs.Curves.{lagrangian, point_at}
use Rattle.hull.proofs.curve.Curve.best_at.Given as goal

abbrev pub invariant-loop-k : goal.invariant-loop-k
invariant-loop-k l = record {
  below : l.best < l.k;
  is : l.least ≡ lagrangian l.p l.q (point_at l.self-inside.vertices.items l.best);
  before : (j : ℕ) → j < l.best → l.least < lagrangian l.p l.q (point_at l.self-inside.vertices.items j);
  least : (j : ℕ) → j < l.k → l.least ≤ lagrangian l.p l.q (point_at l.self-inside.vertices.items j);
}
