use Rattle.std.proofs.Common.{arith}
use Rattle.test_curves.proofs.hull_tests.joins_and_adds_curves.Goals as goal

pub sum-requires-clause-ranges : goal.sum-requires-clause-ranges
sum-requires-clause-ranges g c = λ v w m n.
    let a = c.in_ok-steep.ensures v m in
    let b = c.in_ok-flat.ensures w n in
    record { cost = omega (arith, a.0, b.0); ends = omega (arith, a.1.0, b.1.0); hi = omega (arith, a.1.1.0, b.1.1.0) }
