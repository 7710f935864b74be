-- States of a sweep and hull choices under a budget.
use Rattle.std.specs.Prelude.{◌≡◌, ℕ, ◌<◌, Option, Some, None, List, length}
use Rattle.hull.specs.declared.point.Point.{Point}
use Rattle.hull.specs.declared.price.Price.{Price}
use Rattle.marginal_alloc.specs.declared.allocation.Chosen.{Chosen}
use Rattle.price_bounds.specs.Sums.{lo_of, hi_of}
use Rattle.step_walk.specs.Prefix.{picked}
use Rattle.marginal_alloc.specs.Choice.{IsHullChoice}
use Rattle.budget_sweep.specs.declared.report.SweepPoint.{SweepPoint}
use Rattle.budget_sweep.specs.Sweep.{state_at}

-- the price of a hull choice matches the state's; after the last step it is 0/1
abbrev pub IsPriceOf : Option Price → Price → Type 0
IsPriceOf None price = (price.p ≡ 0) × (price.q ≡ 1)
IsPriceOf (Some own) price = price ≡ own

-- a state is the hull choice under its own cost
pub record IsChoiceAt (curves : List (List Point)) (state : SweepPoint) : Type 0 where
  pub chosen : Chosen
  pub choice : IsHullChoice curves state.cost chosen
  pub cost : chosen.cost ≡ state.cost
  pub lo : lo_of (picked curves chosen.picks) ≡ state.lo
  pub hi : hi_of (picked curves chosen.picks) ≡ state.hi
  pub price : IsPriceOf state.price chosen.price

-- a hull choice is one of the states
pub record IsStateOf (curves : List (List Point)) (points : List SweepPoint) (chosen : Chosen) : Type 0 where
  pub place : ℕ
  pub below : place < length points
  pub cost : (state_at points place).cost ≡ chosen.cost
  pub lo : (state_at points place).lo ≡ lo_of (picked curves chosen.picks)
  pub hi : (state_at points place).hi ≡ hi_of (picked curves chosen.picks)
  pub price : IsPriceOf (state_at points place).price chosen.price
