use Rattle.session_plans.specs.Sessions.{IsEvaluation}
use Rattle.session_plans.proofs.Places.{AreKeptTo}
use Rattle.session_plans.proofs.evaluated.renew_all.Given as goal

abbrev pub invariant-loop-place : goal.invariant-loop-place
invariant-loop-place l = AreKeptTo (IsEvaluation l.fn.case l.fn.stocks) l.fn.case l.fn.families l.families l.place
