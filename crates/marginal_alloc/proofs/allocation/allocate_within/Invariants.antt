use Rattle.std.proofs.Common.{◌≡◌, ◌≤◌}
use Rattle.price_bounds.specs.Sums.{cost_of}
use Rattle.step_walk.specs.Prefix.{picked}
use Rattle.step_walk.proofs.Public.{steps_left}
use Rattle.marginal_alloc.proofs.allocation.allocate_within.Given as goal

abbrev pub invariant-steps : goal.invariant-steps
invariant-steps l = record {
  same : l.walk.curves ≡ l.curves;
  cost : l.cost ≡ cost_of (picked l.curves l.walk.picks);
  fits : l.cost ≤ l.budget;
}

abbrev pub decreases-steps : goal.decreases-steps
decreases-steps l = steps_left l.curves l.walk.picks
