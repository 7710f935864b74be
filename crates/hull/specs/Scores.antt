-- The promises of a score.
use Rattle.std.specs.Prelude.{ℕ, ◌^◌, ◌<◌, ◌≤◌}
use Rattle.exact_model.specs.Fraction.{Fraction, whole, Encloses, ◌*ℚ◌}
use Rattle.fixed_interval.specs.Ends.{Ends, In}

-- the numbers that a score takes
pub record InLimits (systems per_system weight : ℕ) (backorders : Ends) : Type 0 where
  pub some_systems : 1 ≤ systems
  pub most_systems : systems ≤ 10000
  pub some_per_system : 1 ≤ per_system
  pub most_per_system : per_system ≤ 100
  pub some_weight : 1 ≤ weight
  pub most_weight : weight ≤ 100
  pub room : backorders.hi ≤ 2 ^ 56

-- at each depth from 1024 on, the returned interval contains the value at each backorder value of the given interval
abbrev pub EnclosesValue : (ℕ → ℕ → ℕ → Ends → Ends) → (ℕ → ℕ → ℕ → Fraction → ℕ → Fraction) → Type 0
EnclosesValue ends value =
    (systems per_system weight : ℕ) (backorders : Ends) (x : Fraction) → InLimits systems per_system weight backorders
    → In 48 backorders x
    → Encloses 48 (ends systems per_system weight backorders).lo (ends systems per_system weight backorders).hi
    (value systems per_system weight x)

-- if the given interval is in order, so is the returned one, and it leaves room for sums
abbrev pub LeavesRoom : (ℕ → ℕ → ℕ → Ends → Ends) → Type 0
LeavesRoom ends = (systems per_system weight : ℕ) (backorders : Ends) → InLimits systems per_system weight backorders
    → backorders.lo ≤ backorders.hi
    → ((ends systems per_system weight backorders).lo ≤ (ends systems per_system weight backorders).hi)
    × ((ends systems per_system weight backorders).hi < 2 ^ 70)

-- a lower bound on the score of all backorders from low on
abbrev pub IsLowScore : (ℕ → ℕ → ℕ → Ends → Ends) → (systems per_system weight low bound : ℕ) → Type 0
IsLowScore ends systems per_system weight low bound =
    (backorders : Ends) → InLimits systems per_system weight backorders → low ≤ backorders.lo
    → bound ≤ (ends systems per_system weight backorders).lo

-- the weight times the backorders
abbrev pub weighted : ℕ → Fraction → Fraction
weighted weight x = whole weight *ℚ x
