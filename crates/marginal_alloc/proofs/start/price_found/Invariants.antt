use Rattle.std.proofs.Common.{◌^◌, ◌≤◌}
use Rattle.marginal_alloc.proofs.start.price_found.Given as goal

abbrev pub invariant-halves : goal.invariant-halves
invariant-halves l = record {
  price : l.price ≤ 2 ^ 74;
  halves : l.halves ≤ 32;
}

abbrev pub decreases-halves : goal.decreases-halves
decreases-halves l = l.halves
