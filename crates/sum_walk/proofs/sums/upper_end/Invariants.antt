use Rattle.std.proofs.Common.{◌≡◌, ◌+◌, ◌*◌, ◌^◌, ◌≤◌, drop, sum_by}
use Rattle.sum_walk.specs.Lanes.{stands, together}
use Rattle.sum_walk.proofs.sums.upper_end.Given as goal

abbrev pub invariant-loop-j : goal.invariant-loop-j
invariant-loop-j g l = record {
  his : l.hi + sum_by (λ v. v.hi) (stands (drop l.j l.curves) (drop l.j l.lanes)) ≡ (together l.first (stands l.curves l.lanes)).hi;
  hi : l.hi ≤ (l.j + 1) * 2 ^ 74;
}
