use Rattle.std.proofs.Common.{◌≡◌, max, drop}
use Rattle.budget_sweep.specs.Target.{least_cost}
use Rattle.budget_sweep.proofs.reaching.largest_floor.Given as goal

abbrev pub invariant-loop-point : goal.invariant-loop-point
invariant-loop-point l = record
    { largest : max l.largest (least_cost l.limit (drop l.point-index l.points)) ≡ least_cost l.limit l.points }
