-- A hull choice by its parts.
use Rattle.std.specs.Prelude.{ℕ, Option, List}
use Rattle.hull.specs.declared.point.Point.{Point}
use Rattle.hull.specs.declared.price.Price.{Price}
use Rattle.hull.specs.Curves.{lagrangian}
use Rattle.marginal_alloc.specs.declared.allocation.Critical.{Critical}
use Rattle.marginal_alloc.specs.declared.allocation.Chosen.{Chosen}
use Rattle.price_bounds.specs.Sums.{total, bound_of}
use Rattle.step_walk.specs.Prefix.{picked}

-- the hull choice with these picks, this cost and price, and this critical step
abbrev pub told : List ℕ → ℕ → Price → Option Critical → Chosen
told picks cost price critical = record { picks = picks; cost = cost; price = price; critical = critical }

-- the bound by picks and price
abbrev pub bound_at : List (List Point) → ℕ → List ℕ → Price → ℕ
bound_at curves budget picks price = bound_of price.p price.q (total (lagrangian price.p price.q) (picked curves picks)) budget
