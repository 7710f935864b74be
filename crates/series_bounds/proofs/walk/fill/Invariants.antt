use Rattle.std.proofs.Common.{◌≡◌, ◌<◌, ◌≤◌}
use Rattle.series_bounds.specs.Profile.{weight_ends, listed}
use Rattle.series_bounds.proofs.walk.fill.Given as goal

abbrev pub invariant-loop-x : goal.invariant-loop-x
invariant-loop-x g l = record {
  entries : l.list.items ≡ listed (weight_ends g.row.F l.fn.mean l.fn.excess) l._x;
  most : l._x ≤ l.start;
  from : l._x < l.wanted → l.next ≤ l._x;
}
