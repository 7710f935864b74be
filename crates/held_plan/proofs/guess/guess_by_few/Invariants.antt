use Rattle.std.proofs.Common.{◌≤◌}
use Rattle.held_plan.proofs.guess.guess_by_few.Given as goal

abbrev pub invariant-loop : goal.invariant-loop
invariant-loop g l = (24 ≤ l.number) × (l.number ≤ 276) × (24 ≤ l.above) × (l.above ≤ 276)
