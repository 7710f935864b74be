use Rattle.std.proofs.Common.{◌≡◌, ◌^◌, ◌≤◌, length}
use Rattle.hull.specs.declared.point.Point.{Point}
use Rattle.hull.specs.Curves.{Among}
use Rattle.test_curves.proofs.hull_tests.points_of.Given as goal

abbrev pub invariant-loop-row : goal.invariant-loop-row
invariant-loop-row g l = (v : Point) → Among v l.points.items → (v.cost ≤ 1000) × ((v.lo ≤ v.hi) × ((v.hi ≤ 2 ^ 60) × (length v.stocks ≡ 2)))
