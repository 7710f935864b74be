use Rattle.std.proofs.Common.{◌≡◌, ◌+◌, ◌*◌, ◌^◌, ◌≤◌, drop, sum_by}
use Rattle.sum_walk.specs.Lanes.{stands, together}
use Rattle.sum_walk.proofs.sums.place_at.Given as goal

abbrev pub invariant-loop-j : goal.invariant-loop-j
invariant-loop-j g l = record {
  costs : l.cost + sum_by (λ v. v.cost) (stands (drop l.j l.curves) (drop l.j l.lanes)) ≡ (together l.first (stands l.curves l.lanes)).cost;
  los : l.lo + sum_by (λ v. v.lo) (stands (drop l.j l.curves) (drop l.j l.lanes)) ≡ (together l.first (stands l.curves l.lanes)).lo;
  cost : l.cost ≤ (l.j + 1) * 1000000000000;
  lo : l.lo ≤ (l.j + 1) * 2 ^ 74;
}
