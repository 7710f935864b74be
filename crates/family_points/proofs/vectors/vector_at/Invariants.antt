use Rattle.family_points.proofs.Numbers.{Stands}
use Rattle.family_points.proofs.vectors.vector_at.Given as goal

abbrev pub invariant-loop-i : goal.invariant-loop-i
invariant-loop-i l = Stands l.low l.high l.number l.i l.size l.rest l.vector.items
