use Rattle.std.proofs.Common.{◌≡◌, ℕ, ◌<◌}
use Rattle.spares_input.specs.Stocks.{stock_at}
use Rattle.session_plans.proofs.evaluated.is_stocked_alike.Given as goal

abbrev pub invariant-loop-k : goal.invariant-loop-k
invariant-loop-k l = (i : ℕ) → i < l.k → stock_at l.old l.part.0 i ≡ stock_at l.new l.part.0 i
