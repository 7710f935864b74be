use Rattle.std.proofs.Common.{◌+◌}
use Rattle.price_bounds.specs.Sums.{cost_of}
use Rattle.step_walk.specs.Prefix.{picked}
use Rattle.marginal_alloc.specs.Changes.{IsBestBefore}
use Rattle.marginal_alloc.proofs.change.best_change.Given as goal

abbrev pub invariant-loop-f : goal.invariant-loop-f
invariant-loop-f l = IsBestBefore l.curves (cost_of (picked l.curves l.picks) + l.left) l.picks l.f l.best
