use Rattle.std.proofs.Common.{◌≡◌, ℕ, ◌<◌}
use Rattle.step_walk.specs.Prefix.{vertex_at}
use Rattle.bench_choice.proofs.begin_free.Given as goal

abbrev pub invariant-loop-curve : goal.invariant-loop-curve
invariant-loop-curve l = (f : ℕ) → f < l.curve-index → (vertex_at l.curves f 0).cost ≡ 0
