use Rattle.std.proofs.Common.{◌≡◌, length}
use Rattle.hull.specs.declared.point.Point.{Point}
use Rattle.hull.specs.Curves.{Among}
use Rattle.test_curves.proofs.marginal_alloc_tests.curve_of.Given as goal

abbrev pub invariant-loop-row : goal.invariant-loop-row
invariant-loop-row g l = (v : Point) → Among v l.curve → length v.stocks ≡ 0
