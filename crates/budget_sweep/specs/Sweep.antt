-- The sweep of curves: the state after each number of steps, from none to all of them.
use Rattle.std.specs.Prelude.{◌≡◌, ℕ, ◌+◌, ◌-◌, ◌<◌, Option, Some, None, List, [], ◌∷◌, length, slice_index, slice_index_or, sum}
use Rattle.hull.specs.declared.point.Point.{Point}
use Rattle.hull.specs.declared.price.Price.{Price}
use Rattle.price_bounds.specs.Sums.{cost_of, lo_of, hi_of}
use Rattle.step_walk.specs.Prefix.{fall, rise, picked, IsPrefix, IsNext, AllTaken}
use Rattle.budget_sweep.specs.declared.report.SweepPoint.{SweepPoint}

-- the count of steps of the curves
abbrev pub all_steps : List (List Point) → ℕ
all_steps [] = 0
all_steps (curve ∷ curves) = (length curve - 1) + all_steps curves

-- the picks have taken the first k steps
pub record HasTaken (curves : List (List Point)) (k : ℕ) (picks : List ℕ) : Type 0 where
  pub prefix : IsPrefix curves picks
  pub count : sum picks ≡ k

-- the price of the first step that isn't taken, and none if no step is left
abbrev pub TellsPrice : List (List Point) → List ℕ → Option Price → Type 0
TellsPrice curves picks None = AllTaken curves picks
TellsPrice curves picks (Some price) =
    (f : ℕ) × IsNext curves picks f
    × (price.p ≡ fall curves f (slice_index picks f)) × (price.q ≡ rise curves f (slice_index picks f))

-- the sums at the picks, and the price
pub record IsStateAt (curves : List (List Point)) (picks : List ℕ) (point : SweepPoint) : Type 0 where
  pub cost : point.cost ≡ cost_of (picked curves picks)
  pub lo : point.lo ≡ lo_of (picked curves picks)
  pub hi : point.hi ≡ hi_of (picked curves picks)
  pub price : TellsPrice curves picks point.price

-- the state after the first k steps
pub record IsState (curves : List (List Point)) (k : ℕ) (point : SweepPoint) : Type 0 where
  pub picks : List ℕ
  pub taken : HasTaken curves k picks
  pub state : IsStateAt curves picks point

-- no state
abbrev pub no_state : SweepPoint
no_state = record { cost = 0; lo = 0; hi = 0; price = None }

-- the state at index k of a list
abbrev pub state_at : List SweepPoint → ℕ → SweepPoint
state_at points k = slice_index_or points k no_state

-- the last state of a list
abbrev pub last_state : List SweepPoint → SweepPoint
last_state points = state_at points (length points - 1)

-- the states from none to all steps
pub record IsSweep (curves : List (List Point)) (points : List SweepPoint) : Type 0 where
  pub count : length points ≡ all_steps curves + 1
  pub each : (k : ℕ) → k < length points → IsState curves k (state_at points k)
