use Rattle.std.proofs.Common.{◌≡◌, ◌-◌, IsTrue, [], ◌∷◌, length, take}
use Rattle.family_points.specs.Separation.{depot_point}
use Rattle.sum_walk.specs.Sums.{sums_of_each}
use Rattle.family_curve.specs.Under.{LieBelow, LieUnder}
use Rattle.family_curve.proofs.Under.{over}
use Rattle.family_curve.proofs.passed.put_low_curves.Given as goal

abbrev pub invariant-loop-j : goal.invariant-loop-j
invariant-loop-j g l = record {
  under : LieUnder (sums_of_each (depot_point l.sources.family.now l.depot ∷ []) (take (l.j - 1) l.lows.chains.items)) (over g.S.Score.ends l.sources.family.now l.depot (l.j - 1));
  below : IsTrue l.strict → LieBelow (sums_of_each (depot_point l.sources.family.now l.depot ∷ []) (take (l.j - 1) l.lows.chains.items)) (over g.S.Score.ends l.sources.family.now l.depot (l.j - 1));
  count : length l.lows.chains.items ≡ length l.sources.bases.items;
}
