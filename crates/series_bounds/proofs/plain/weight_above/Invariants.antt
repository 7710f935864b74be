use Rattle.std.proofs.Common.{◌≡◌, ◌-◌, ◌≤◌, ◌*◌, ◌^◌}
use Rattle.series_bounds.specs.Profile.{weight_ends}
use Rattle.series_bounds.proofs.plain.weight_above.Given as goal

abbrev pub invariant-loop-y : goal.invariant-loop-y
invariant-loop-y g l = record {
  weight : l.term ≡ weight_ends g.row.F l.mean l.excess (l.y - 1);
  top : l.term.hi ≤ 8 * 2 ^ g.row.F;
}
