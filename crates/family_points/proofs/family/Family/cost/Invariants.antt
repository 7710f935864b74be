use Rattle.family_points.proofs.Bounded.{Costs}
use Rattle.family_points.proofs.family.Family.cost.Given as goal

abbrev pub invariant-loop-i : goal.invariant-loop-i
invariant-loop-i l = Costs l.self l.fn.site.0 l.stocks l.i l.cost
