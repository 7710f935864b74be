use Rattle.std.proofs.Common.{vec_len}
use Rattle.held_plan.proofs.KeptFacts.{ArePutBack}
use Rattle.held_plan.proofs.parts.put_back.Given as goal

abbrev pub invariant-loop-curve : goal.invariant-loop-curve
invariant-loop-curve l = ArePutBack l.fn.window l.fn.known.curves.items l.fn.known.windows.items l.fn.known.beyond.items l.fn.kept.items l.kept.items l.left.items

abbrev pub decreases-loop-curve : goal.decreases-loop-curve
decreases-loop-curve l = vec_len l.left
