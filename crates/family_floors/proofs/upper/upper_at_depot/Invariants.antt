use Rattle.std.proofs.Common.{◌-◌, ◌*◌, ◌^◌, ◌≤◌}
use Rattle.std.specs.List.{range_with_len}
use Rattle.family_points.specs.Points.{HasUpper}
use Rattle.family_points.specs.Separation.{points_over}
use Rattle.family_floors.proofs.upper.upper_at_depot.Given as goal

abbrev pub invariant-loop-j : goal.invariant-loop-j
invariant-loop-j g l = record {
  upper : HasUpper (points_over g.S.Score.ends l.sources.family.now l.depot (range_with_len 1 (l.j - 1))) l.upper;
  most : l.upper ≤ (l.j - 1) * 2 ^ 74;
}
