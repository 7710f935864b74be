use Rattle.std.proofs.Common.{◌≡◌, ℕ, ◌+◌, List}
use Rattle.price_bounds.specs.Sums.{cost_of, hi_of}
use Rattle.step_walk.specs.Prefix.{AreVertices, picked}
use Rattle.marginal_alloc.specs.Filling.{Fills}
use Rattle.marginal_alloc.proofs.filling.fill.Given as goal

abbrev pub invariant-changes : goal.invariant-changes
invariant-changes l = record {
  vertices : AreVertices l.curves l.picks.items;
  money : cost_of (picked l.curves l.picks.items) + l.left ≡ l.budget;
  on : (end : List ℕ) → Fills l.curves l.budget l.picks.items end → Fills l.curves l.budget l.initial.picks.items end;
}

abbrev pub decreases-changes : goal.decreases-changes
decreases-changes l = hi_of (picked l.curves l.picks.items)
