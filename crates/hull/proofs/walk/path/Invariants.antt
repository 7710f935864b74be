use Rattle.std.proofs.Common.{◌+◌, length}
use Rattle.hull.proofs.Sums.{Walked}
use Rattle.hull.proofs.walk.path.Given as goal

abbrev pub invariant-walk : goal.invariant-walk
invariant-walk l = Walked l.fn.a l.fn.b l.path.items l.left l.right

abbrev pub decreases-walk : goal.decreases-walk
decreases-walk l = length l.left + length l.right
