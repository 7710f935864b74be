-- Sums of money.
use Rattle.std.specs.Prelude.{ℕ}

-- the largest budget, in whole money
abbrev pub most_budget : ℕ
most_budget = 1000000000000000
