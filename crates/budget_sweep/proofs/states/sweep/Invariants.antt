use Rattle.std.proofs.Common.{◌≡◌}
use Rattle.step_walk.proofs.Public.{steps_left}
use Rattle.budget_sweep.specs.Sums.{AreSums}
use Rattle.budget_sweep.proofs.Taken.{Swept}
use Rattle.budget_sweep.proofs.states.sweep.Given as goal

abbrev pub invariant-steps : goal.invariant-steps
invariant-steps l = record {
  same : l.walk.curves ≡ l.curves;
  sums : AreSums l.curves l.walk.picks l.sums;
  swept : Swept l.curves l.walk.picks l.points.items;
}

abbrev pub decreases-steps : goal.decreases-steps
decreases-steps l = steps_left l.curves l.walk.picks
