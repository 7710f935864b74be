use Rattle.std.proofs.Common.{◌≡◌, ◌+◌, ◌*◌, ◌≤◌}
use Rattle.marginal_alloc.proofs.Costs.{cost_from}
use Rattle.marginal_alloc.proofs.filling.cost_at.Given as goal

abbrev pub invariant-loop-f : goal.invariant-loop-f
invariant-loop-f l = record {
  cost : l.cost + cost_from l.f l.curves l.picks ≡ cost_from 0 l.curves l.picks;
  small : l.cost ≤ 1000000000000 * l.f;
}
