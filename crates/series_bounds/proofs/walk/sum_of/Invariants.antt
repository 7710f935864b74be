use Rattle.std.proofs.Common.{◌≡◌, ◌≤◌, ◌*◌, ◌^◌, take}
use Rattle.series_bounds.specs.Profile.{ends_sum}
use Rattle.series_bounds.proofs.walk.sum_of.Given as goal

abbrev pub invariant-loop-v : goal.invariant-loop-v
invariant-loop-v g l = record {
  sum : l.sum ≡ ends_sum (take l.v-index l.list);
  most : l.sum.hi ≤ l.v-index * (8 * 2 ^ g.row.F);
}
