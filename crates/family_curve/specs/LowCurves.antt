-- The rows and the chain from which the curve of a base's lower bounds is made. No promise of the crate rests on these
-- words.
use Rattle.std.specs.Prelude.{◌≡◌, ℕ, ◌+◌, ◌-◌, ◌<◌, ◌≤◌, ◌⊎◌, Bool, IsTrue, List, [], ◌∷◌, ◌++◌, get_or, length}
use Rattle.std.specs.List.{AllZip}
use Rattle.hull.specs.declared.point.Point.{Point}
use Rattle.hull.specs.Curves.{Among, StandFor}
use Rattle.backorder_bounds.specs.Places.{low_end}
use Rattle.family_points.specs.Inputs.{FamilyBox, line_high, line_low, shop_vectors}
use Rattle.family_rows.specs.declared.base_at.BaseAt.{BaseAt}
use Rattle.family_curve.specs.declared.low_curve.LowSpot.{LowSpot}
use Rattle.family_bases.specs.Lows.{line_place}
use Rattle.family_curve.specs.Under.{LieBelow, LieUnder}

-- the point of a lower bound
abbrev pub low_point : LowSpot → Point
low_point v = record { cost = v.cost; lo = v.lo; hi = v.lo; stocks = [] }

-- lower bounds on the line unit's backorders at base j, by its stock there from the least on
pub record IsLowRow (x : FamilyBox) (d : List ℕ) (j : ℕ) (shops row : List ℕ) : Type 0 where
  pub long : line_high x j < line_low x j + length row
  pub low : (i : ℕ) → i < length row → get_or row i 0 ≤ low_end 48 (line_place x d j shops (line_low x j + i))

-- one such row for each vector of the shop units' stocks at a base
abbrev pub AreLowRows : BaseAt → List (List ℕ) → Type 0
AreLowRows b rows = AllZip (IsLowRow b.family.now b.depot.now b.site.0) (shop_vectors b.family.now b.site.0) rows

-- at most the score of a point, at its cost
pub record IsLowSpot (spot : LowSpot) (v : Point) : Type 0 where
  pub cost : spot.cost ≡ v.cost
  pub lo : spot.lo ≤ v.lo

-- a chain gets one more point: no higher than v, and one unit of money cheaper if v costs any; cheaper or lower if
-- `strict`
pub record TakesLow (v : Point) (old new : List Point) (strict : Bool) : Type 0 where
  pub spot : Point
  pub cost : spot.cost ≡ v.cost - 1
  pub lo : spot.lo ≤ v.lo
  pub below : IsTrue strict → (spot.cost < v.cost) ⊎ (spot.lo < v.lo)
  pub bare : spot.stocks ≡ []
  pub stands : StandFor (old ++ spot ∷ []) new

-- a chain of lower bounds on these points, all of them below the points if `strict`
pub record IsLowTo (points chain : List Point) (strict : Bool) : Type 0 where
  pub under : LieUnder chain points
  pub below : IsTrue strict → LieBelow chain points
  pub costs : (v : Point) → Among v chain → (u : Point) × Among u points × (v.cost ≡ u.cost - 1)
  pub bare : (v : Point) → Among v chain → v.stocks ≡ []
