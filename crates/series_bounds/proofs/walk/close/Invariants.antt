use Rattle.std.proofs.Common.{◌≡◌, ◌+◌, ◌*◌, ◌^◌, ◌≤◌}
use Rattle.series_bounds.specs.Profile.{ratio_ends, weight_ends}
use Rattle.series_bounds.specs.Ratios.{AreRatios}
use Rattle.series_bounds.specs.Walk.{Begins}
use Rattle.series_bounds.proofs.Unlisted.{Climb}
use Rattle.series_bounds.proofs.walk.close.Given as goal

abbrev pub invariant-loop-x : goal.invariant-loop-x
invariant-loop-x g l = record {
  climb : Climb g.row.F l.mean l.excess l.last l.sum l.x;
  first : Begins (weight_ends g.row.F l.mean l.excess) l.wanted l.x l.list.items;
  ratio : l.ratio ≡ ratio_ends g.row.F l.mean l.excess l.x;
  ratio_top : l.ratio.hi ≤ 257 * 2 ^ g.row.F;
  ratios : AreRatios g.row.F l.mean l.excess (l.x + 1) l.ratios;
}
