use Rattle.std.proofs.Common.{◌-◌, ◌*◌, ◌^◌, ◌≤◌}
use Rattle.std.specs.List.{range_with_len}
use Rattle.family_points.specs.Least.{IsLeast}
use Rattle.family_points.specs.Separation.{points_over}
use Rattle.family_floors.proofs.least.least_at_depot.Given as goal

abbrev pub invariant-loop-j : goal.invariant-loop-j
invariant-loop-j g l = record {
  least : IsLeast l.price.p l.price.q (points_over g.S.Score.ends l.sources.family.now l.depot (range_with_len 1 (l.j - 1))) l.least;
  most : l.least ≤ l.j * 2 ^ 115;
}
