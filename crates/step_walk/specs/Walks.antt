-- Walks over the steps of curves.
use Rattle.std.specs.Prelude.{◌≡◌, ℕ, ◌+◌, ◌<◌, ◌≤◌, List, length, set, slice_index}
use Rattle.std.specs.BinaryHeap.{IsHeap}
use Rattle.hull.specs.declared.point.Point.{Point}
use Rattle.hull.specs.Limits.{most_price_units, most_price_money, most_points, most_curves}
use Rattle.step_walk.specs.Prefix.{curve_at, fall, rise, IsPrefix, IsNext, AllTaken, HaveShapes}
use Rattle.step_walk.specs.declared.step.Step.{Step}
use Rattle.step_walk.specs.declared.walk.Next.{Next}
use Rattle.step_walk.specs.Steep.{AreAfterSteep}
use Rattle.step_walk.specs.Steps.{step_cmp, HoldsNext}

-- the curves, and the vertex of each that the walk has reached
pub record Walked : Type 0 where
  pub curves : List (List Point)
  pub picks : List ℕ

-- no curve has more vertices than a place can count
abbrev pub AreShort : List (List Point) → Type 0
AreShort curves = (f : ℕ) → f < length curves → length (curve_at curves f) ≤ most_points

-- the steps taken are a prefix of all, and the next ones of the families wait
pub record IsWalk (curves : List (List Point)) (picks : List ℕ) (waiting : List Step) : Type 0 where
  pub few : length curves ≤ most_curves
  pub short : AreShort curves
  pub shapes : HaveShapes curves
  pub prefix : IsPrefix curves picks
  pub order : IsHeap step_cmp waiting
  pub waits : HoldsNext curves picks (length curves) waiting

-- the properties of each walk
pub record IsOnWay (walk : Walked) : Type 0 where
  pub shapes : HaveShapes walk.curves
  pub prefix : IsPrefix walk.curves walk.picks

-- no step of these curves is taken
pub record IsAtFirst (curves : List (List Point)) (walk : Walked) : Type 0 where
  pub way : IsOnWay walk
  pub same : walk.curves ≡ curves
  pub zero : (f : ℕ) → slice_index walk.picks f ≡ 0

-- the steps of these curves that fall by more than p per unit of money are taken, and no others
pub record IsAfter (p : ℕ) (curves : List (List Point)) (walk : Walked) : Type 0 where
  pub way : IsOnWay walk
  pub same : walk.curves ≡ curves
  pub steep : AreAfterSteep p curves walk.picks

-- no step is left
pub record AllDone (walk : Walked) : Type 0 where
  pub way : IsOnWay walk
  pub done : AllTaken walk.curves walk.picks

-- the first step that isn't taken, and its price
pub record TellsFirst (walk : Walked) (next : Next) : Type 0 where
  pub way : IsOnWay walk
  pub first : IsNext walk.curves walk.picks next.family
  pub vertex : next.vertex ≡ slice_index walk.picks next.family + 1
  pub p : next.price.p ≡ fall walk.curves next.family (slice_index walk.picks next.family)
  pub q : next.price.q ≡ rise walk.curves next.family (slice_index walk.picks next.family)
  pub small : (next.price.p < most_price_units) × (0 < next.price.q) × (next.price.q ≤ most_price_money)

-- a step is left
abbrev pub HasNext : Walked → Type 0
HasNext walk = (f : ℕ) × IsNext walk.curves walk.picks f

-- one step more is taken: the first that wasn't
pub record MovesOn (old new : Walked) : Type 0 where
  pub curves : new.curves ≡ old.curves
  pub picks : (f : ℕ) → IsNext old.curves old.picks f → new.picks ≡ set old.picks f (slice_index old.picks f + 1)
