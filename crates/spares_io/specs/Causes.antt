-- When a count of faults shows a fault.
use Rattle.std.specs.Prelude.{◌≤◌, ◌+◌, ◌-◌, ◌^◌, ℕ, min}

-- a count after one more fault; it stops at 2 ^ 64 - 1
abbrev pub next_count : ℕ → ℕ
next_count count = min (count + 1) (2 ^ 64 - 1)

-- the count rose in the call, or is at its end
abbrev pub Rose : ℕ → ℕ → Type 0
Rose before now = next_count before ≤ now

-- a count is at most 2 ^ 64 - 1
abbrev pub Fits64 : ℕ → Type 0
Fits64 n = n ≤ 2 ^ 64 - 1
