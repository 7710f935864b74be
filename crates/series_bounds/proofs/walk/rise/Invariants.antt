use Rattle.std.proofs.Common.{◌+◌, ◌≤◌, max}
use Rattle.series_bounds.specs.Profile.{pivot_at, weight_ends}
use Rattle.series_bounds.specs.Ratios.{AreRatios}
use Rattle.series_bounds.specs.Walk.{Begins}
use Rattle.series_bounds.proofs.Unlisted.{Climb}
use Rattle.series_bounds.proofs.walk.rise.Given as goal

abbrev pub invariant-loop-x : goal.invariant-loop-x
invariant-loop-x g l = record {
  climb : Climb g.row.F l.mean l.excess l.last l.sum l.x;
  first : Begins (weight_ends g.row.F l.mean l.excess) l.wanted l.x l.list.items;
  ratios : AreRatios g.row.F l.mean l.excess l.x l.ratios;
  most : l.x ≤ max (pivot_at g.row.F l.mean l.excess + 1) 63;
}
