use Rattle.demand_rates.proofs.WaitFacts.{AreWaitsBelow}
use Rattle.demand_rates.proofs.waits.waits_at.Given as goal

abbrev pub invariant-loop-p : goal.invariant-loop-p
invariant-loop-p l = AreWaitsBelow l.case l.site.0 l.p l.waits.items
