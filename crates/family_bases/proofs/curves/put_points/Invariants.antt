use Rattle.std.proofs.Common.{◌≤◌, length}
use Rattle.hull.specs.Curves.{StandFor}
use Rattle.family_points.proofs.Public.{points_to}
use Rattle.family_bases.proofs.curves.put_points.Given as goal

abbrev pub invariant-loop-n : goal.invariant-loop-n
invariant-loop-n g l = record {
  stands : StandFor (points_to l.here.family.now l.here.site.0 l.here.base.now.order.items g.S.Score.ends l.here.depot.now l.n) l.chain;
  few : length l.chain ≤ l.n;
}
