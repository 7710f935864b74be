-- Ranges of what demand within the days of a row adds to a pipeline.
use Rattle.std.proofs.Common.{ℕ, ◌*◌, ◌≤◌, arith}
use Rattle.std.proofs.lemmas.Nat.{mul-le}
use mir.Val.{Fits}
use mir.Syntax.{w128}

-- a demand for shop units over the days of a row, in units of the pipelines
pub direct_most : (demand days : ℕ) → demand ≤ 100000000000000000 → days ≤ 20000000000 → demand * days ≤ 2000000000000000000000000000
direct_most demand days few few_days = mul-le demand days 100000000000000000 20000000000 few few_days

-- what is at most that fits 128 bits
pub direct_fits : (direct : ℕ) → direct ≤ 2000000000000000000000000000 → Fits w128 direct
direct_fits direct few = omega (arith, few)

-- and is at most what contracts say
pub small_enough : (direct : ℕ) → direct ≤ 2000000000000000000000000000 → direct ≤ 30000000000000000000000000000
small_enough direct few = omega (arith, few)
