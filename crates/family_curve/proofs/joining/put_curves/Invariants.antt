use Rattle.std.proofs.Common.{◌≡◌, ◌+◌, ◌-◌, ◌≤◌, [], ◌∷◌, length, sum_by, take}
use Rattle.std.specs.List.{range_with_len}
use Rattle.hull.specs.Curves.{StandFor}
use Rattle.family_points.specs.Separation.{depot_point, points_over}
use Rattle.sum_walk.specs.Sums.{sums_of_each}
use Rattle.family_points.proofs.Public.{over_count}
use Rattle.family_curve.proofs.joining.put_curves.Given as goal

abbrev pub invariant-loop-j : goal.invariant-loop-j
invariant-loop-j g l = record {
  stands : StandFor (points_over g.S.Score.ends l.sources.family.now l.depot (range_with_len 1 (l.j - 1))) (sums_of_each (depot_point l.sources.family.now l.depot ∷ []) (take (l.j - 1) l.work.chains.items));
  few : 1 + sum_by length (take (l.j - 1) l.work.chains.items) ≤ over_count l.sources.family.now l.j;
  count : length l.work.chains.items ≡ length l.sources.bases.items;
}
