use Rattle.std.proofs.Common.{◌≡◌, ℕ, ◌<◌}
use Rattle.hull.specs.Curves.{point_at}
use Rattle.part_filling.proofs.known.place_at.Given as goal

abbrev pub invariant-loop-k : goal.invariant-loop-k
invariant-loop-k l = (j : ℕ) → j < l.k → (point_at l.curve j).cost ≡ l.cost → ⊥
