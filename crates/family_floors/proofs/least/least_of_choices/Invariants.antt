use Rattle.std.proofs.Common.{◌^◌, ◌≤◌}
use Rattle.family_points.specs.Least.{IsLeast}
use Rattle.family_points.proofs.Public.{points_to}
use Rattle.family_floors.proofs.least.least_of_choices.Given as goal

abbrev pub invariant-loop-n : goal.invariant-loop-n
invariant-loop-n g l = record {
  least : IsLeast l.price.p l.price.q (points_to l.here.family.now l.here.site.0 l.here.base.now.order.items g.S.Score.ends l.here.depot.now l.n) l.least;
  most : l.least ≤ 2 ^ 115;
}
