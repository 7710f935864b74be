-- Lower bounds on Lagrangians at two prices. No promise of the crate rests on these words.
use Rattle.std.specs.Prelude.{ℕ, ◌*◌, ◌≤◌, min, List, ◌∷◌, drop, get_or}
use Rattle.std.specs.List.{AllZip}
use Rattle.hull.specs.declared.price.Price.{Price}
use Rattle.hull.specs.Curves.{lagrangian}
use Rattle.hull.specs.Limits.{most_price_units, most_price_money}
use Rattle.backorder_bounds.specs.Places.{Place}
use Rattle.family_numbers.specs.Numbers.{base_line_place}
use Rattle.family_points.specs.Inputs.{FamilyBox, line_high, line_low, shop_vectors}
use Rattle.family_points.specs.Points.{ScoreEnds}
use Rattle.family_points.specs.Separation.{base_point}
use Rattle.family_rows.specs.declared.base_at.BaseAt.{BaseAt}
use Rattle.family_rows.specs.Tabled.{box_numbers}
use Rattle.family_bases.specs.declared.lows.Lows.{Lows}

-- the numbers of a price are within their limits
pub record IsSmallPrice (price : Price) : Type 0 where
  pub p : price.p ≤ most_price_units
  pub q : price.q ≤ most_price_money

-- the line unit's stock s at base j in the table of its pipeline there, when the depot has the stocks d and the base
-- these of the shop units
abbrev pub line_place : FamilyBox → List ℕ → ℕ → List ℕ → ℕ → Place
line_place x d j shops s = base_line_place 48 (box_numbers x) j (get_or d 0 0) (drop 1 d) shops s

-- at most the Lagrangians of these stocks at base j
pub record AreUnder (ends : ScoreEnds) (x : FamilyBox) (d : List ℕ) (j : ℕ) (low high : Price) (shops : List ℕ) (s : ℕ)
    (lows : Lows) : Type 0 where
  pub at_low : lows.at_low ≤ lagrangian low.p low.q (base_point ends x d j (s ∷ shops))
  pub at_high : lows.at_high ≤ lagrangian high.p high.q (base_point ends x d j (s ∷ shops))

-- a number is at most another at each price
pub record AreNoHigher (lows others : Lows) : Type 0 where
  pub at_low : lows.at_low ≤ others.at_low
  pub at_high : lows.at_high ≤ others.at_high

-- a cost alone comes to no less at each price
pub record IsReached (lows : Lows) (low high : Price) (cost : ℕ) : Type 0 where
  pub at_low : lows.at_low ≤ low.p * cost
  pub at_high : lows.at_high ≤ high.p * cost

-- the lower number at each price
abbrev pub lower_of : Lows → Lows → Lows
lower_of a b = record { at_low = min a.at_low b.at_low; at_high = min a.at_high b.at_high }

-- at most the Lagrangians at base j with these stocks of the shop units there, at each stock of the line unit
abbrev pub AreUnderEach : ScoreEnds → FamilyBox → List ℕ → ℕ → Price → Price → List ℕ → Lows → Type 0
AreUnderEach ends x d j low high shops lows =
    (s : ℕ) → line_low x j ≤ s → s ≤ line_high x j → AreUnder ends x d j low high shops s lows

-- such bounds for each vector of the shop units' stocks at a base
abbrev pub AreLowsOf : ScoreEnds → BaseAt → Price → Price → List Lows → Type 0
AreLowsOf ends b low high lows = AllZip (AreUnderEach ends b.family.now b.depot.now b.site.0 low high)
    (shop_vectors b.family.now b.site.0) lows
