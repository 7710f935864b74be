use Rattle.step_walk.specs.Prefix.{picked}
use Rattle.price_bounds.specs.Soundness.{stocks_of}
use Rattle.case_plan.specs.Placing.{ArePlaced}
use Rattle.case_plan.proofs.placing.stocks_of.Given as goal

abbrev pub invariant-loop-p : goal.invariant-loop-p
invariant-loop-p l = ArePlaced l.fn.case (stocks_of (picked l.fn.curves l.fn.picks)) l.stocks l.p l.f
