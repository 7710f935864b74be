-- A base at stocks of the depot, its rows of backorders, and its points. No promise of the crate rests on these words.
use Rattle.std.specs.Prelude.{◌≡◌, ℕ, ◌<◌, List, [], ◌∷◌, get_or, length, All}
use Rattle.std.specs.List.{AllZip}
use Rattle.fixed_interval.specs.Ends.{Ends, IsWithinLimit}
use Rattle.series_bounds.specs.Answer.{at_place}
use Rattle.fleet_model.specs.Laws.{IsBase}
use Rattle.fleet_model.specs.Rows.{systems, per_system, weight}
use Rattle.family_items.specs.Profile.{item_of}
use Rattle.hull.specs.declared.point.Point.{Point}
use Rattle.family_points.specs.Choices.{IsBaseOf}
use Rattle.family_points.specs.Inputs.{FamilyBox, IsAt, IsFamilyBox, line_high, shop_vectors}
use Rattle.family_points.specs.Separation.{base_stocks}
use Rattle.family_rows.specs.declared.base.BaseSpot.{BaseSpot}
use Rattle.family_rows.specs.declared.base_at.BaseAt.{BaseAt}

-- the point of stocks at a base
abbrev pub spot_point : BaseSpot → Point
spot_point v = record { cost = v.cost; lo = v.lo; hi = v.hi; stocks = v.line ∷ v.shops.now }

-- a base of a family and its numbers, at stocks of the depot within their bounds
pub record IsBaseAt (b : BaseAt) : Type 0 where
  pub valid : IsFamilyBox b.family.now
  pub depot : IsAt b.family.now 0 b.depot.now
  pub site : IsBase b.family.now.case b.site.0
  pub base : IsBaseOf b.family.now b.site.0 b.base.now
  pub systems : b.systems ≡ systems b.family.now.case b.site.0
  pub per_system : b.per_system ≡ per_system b.family.now.case b.family.now.line
  pub weight : b.weight ≡ weight b.family.now.case b.family.now.line

-- the line unit's backorders at base j by its stock there, with the stocks d at the depot and `shops` at the base
pub record IsRow (x : FamilyBox) (d : List ℕ) (j : ℕ) (shops : List ℕ) (row : List Ends) : Type 0 where
  pub long : line_high x j < length row
  pub small : All (IsWithinLimit 48) row
  pub ends : (s : ℕ) → IsAt x j (s ∷ shops)
      → at_place row s ≡ (item_of 48 x.case (base_stocks x d j (s ∷ shops)) x.line j).backorders

-- one such row for each vector of the shop units' stocks at a base
abbrev pub AreRows : BaseAt → List (List Ends) → Type 0
AreRows b rows = AllZip (IsRow b.family.now b.depot.now b.site.0) (shop_vectors b.family.now b.site.0) rows

-- the row of the n-th vector of them
abbrev pub IsRowOf : BaseAt → ℕ → List Ends → Type 0
IsRowOf b n = IsRow b.family.now b.depot.now b.site.0 (get_or (shop_vectors b.family.now b.site.0) n [])
