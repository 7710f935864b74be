use Rattle.session_plans.specs.Settling.{AreSettled}
use Rattle.session_plans.proofs.evaluated.settle.Given as goal

abbrev pub invariant-loop-p : goal.invariant-loop-p
invariant-loop-p l = AreSettled l.fn.case l.fn.old l.fn.new l.fn.families l.families l.p
