use Rattle.std.proofs.Common.{◌-◌, ◌*◌, ◌^◌, ◌≤◌}
use Rattle.std.specs.List.{range_with_len}
use Rattle.family_points.specs.Least.{AreAtLeast}
use Rattle.family_points.specs.Separation.{points_over}
use Rattle.family_bases.proofs.lows.low_at_depot.Given as goal

abbrev pub invariant-loop-j : goal.invariant-loop-j
invariant-loop-j g l = record {
  low : AreAtLeast l.price.p l.price.q l.low (points_over g.S.Score.ends l.sources.family.now l.depot (range_with_len 1 (l.j - 1)));
  most : l.low ≤ l.j * 2 ^ 115;
}
