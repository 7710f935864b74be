use Rattle.std.proofs.Common.{◌≡◌}
use Rattle.series_bounds.specs.Profile.{weight_ends, listed}
use Rattle.series_bounds.proofs.Unlisted.{Climb}
use Rattle.series_bounds.proofs.plain.risen_plain.Given as goal

abbrev pub invariant-loop-x : goal.invariant-loop-x
invariant-loop-x g l = record {
  climb : Climb g.row.F l.mean l.excess l.last l.sum l.x;
  list : l.list.items ≡ listed (weight_ends g.row.F l.mean l.excess) l.x;
}
