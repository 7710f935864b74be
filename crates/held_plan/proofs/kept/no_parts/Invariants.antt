use Rattle.std.proofs.Common.{◌≡◌, replicate, None}
use Rattle.held_plan.proofs.kept.no_parts.Given as goal

abbrev pub invariant-loop-f : goal.invariant-loop-f
invariant-loop-f l = l.parts.items ≡ replicate l._f None
