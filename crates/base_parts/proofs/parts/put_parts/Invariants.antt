use Rattle.std.proofs.Common.{◌≡◌, ◌+◌, ◌-◌, ◌≤◌, [], ◌∷◌, length, sum_by, take}
use Rattle.std.specs.List.{range_with_len}
use Rattle.sum_walk.specs.Sums.{sums_of_each}
use Rattle.curve_parts.specs.Parts.{StandForBetween}
use Rattle.curve_parts.specs.Beyond.{LieBeyond}
use Rattle.family_points.specs.Least.{AreAtLeast}
use Rattle.family_points.specs.Separation.{depot_point, points_over}
use Rattle.family_points.proofs.Public.{over_count}
use Rattle.base_parts.proofs.parts.put_parts.Given as goal

abbrev pub invariant-loop-j : goal.invariant-loop-j
invariant-loop-j g l = record {
  stands : StandForBetween l.low l.high (points_over g.S.Score.ends l.sources.family.now l.depot (range_with_len 1 (l.j - 1))) (sums_of_each (depot_point l.sources.family.now l.depot ∷ []) (take (l.j - 1) l.work.parts.items));
  few : 1 + sum_by length (take (l.j - 1) l.work.parts.items) ≤ over_count l.sources.family.now l.j;
  least : AreAtLeast l.low.p l.low.q l.least (points_over g.S.Score.ends l.sources.family.now l.depot (range_with_len 1 (l.j - 1)));
  beyond : LieBeyond l.low (points_over g.S.Score.ends l.sources.family.now l.depot (range_with_len 1 (l.j - 1))) (sums_of_each (depot_point l.sources.family.now l.depot ∷ []) (take (l.j - 1) l.work.parts.items)) (l.least + l.gap);
  count : length l.work.parts.items ≡ length l.sources.bases.items;
}
