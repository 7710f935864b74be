use Rattle.std.proofs.Common.{◌≤◌, length}
use Rattle.family_points.proofs.Public.{points_to}
use Rattle.family_curve.specs.LowCurves.{IsLowTo}
use Rattle.family_curve.proofs.low_curve.put_low_points.Given as goal

abbrev pub invariant-loop-n : goal.invariant-loop-n
invariant-loop-n g l = record {
  low : IsLowTo (points_to l.here.family.now l.here.site.0 l.here.base.now.order.items g.S.Score.ends l.here.depot.now l.n) l.chain l.strict;
  few : length l.chain ≤ l.n;
}
