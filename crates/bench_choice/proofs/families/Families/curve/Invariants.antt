use Rattle.std.proofs.Common.{◌≡◌, length}
use Rattle.hull.specs.declared.point.Point.{Point}
use Rattle.hull.specs.Curves.{Among}
use Rattle.bench_choice.proofs.families.Families.curve.Given as goal

abbrev pub invariant-loop-place : goal.invariant-loop-place
invariant-loop-place l = (v : Point) → Among v l.curve → length v.stocks ≡ 0
