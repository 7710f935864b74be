use Rattle.std.proofs.Common.{◌≡◌, ◌-◌, ◌≤◌, ◌*◌, ◌^◌}
use Rattle.series_bounds.specs.Profile.{weight_ends}
use Rattle.series_bounds.proofs.plain.weight_below.Given as goal

abbrev pub invariant-loop-step : goal.invariant-loop-step
invariant-loop-step g l = record {
  weight : l.term ≡ weight_ends g.row.F l.mean l.excess (l.pivot - l.step);
  top : l.term.hi ≤ 8 * 2 ^ g.row.F;
}
