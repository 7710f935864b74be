use Rattle.std.proofs.Common.{length}
use Rattle.session_plans.proofs.Followed.{IsOnItsWay}
use Rattle.session_plans.proofs.edits.followed.Given as goal

abbrev pub invariant-loop-rest : goal.invariant-loop-rest
invariant-loop-rest g l = IsOnItsWay l.fn.session.case l.fn.bytes l.session l.plans.items l.line l.rest

abbrev pub decreases-loop-rest : goal.decreases-loop-rest
decreases-loop-rest g l = length l.rest
