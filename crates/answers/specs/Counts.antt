-- Counts that the code keeps as a `u64`.
use Rattle.std.specs.Prelude.{◌-◌, ◌^◌, ℕ, min}

-- the count of a field that the code keeps as a `u64`
abbrev pub count64 : ℕ → ℕ
count64 n = min n (2 ^ 64 - 1)
