use Rattle.std.proofs.Common.{◌≡◌, replicate, None}
use Rattle.session_plans.proofs.values.no_values.Given as goal

abbrev pub invariant-loop-k : goal.invariant-loop-k
invariant-loop-k g l = l.kept.items ≡ replicate l._k None
