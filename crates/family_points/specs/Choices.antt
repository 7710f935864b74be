-- The choices of stocks at a base, and their points. No promise of the crate rests on these words.
use Rattle.std.specs.Prelude.{◌≡◌, ℕ, ◌<◌, ◌≤◌, List, [], ◌∷◌, flat_map, get_or, length, map, All}
use Rattle.std.specs.List.{AllZip}
use Rattle.std.specs.List.Sorted.{IsNonDecreasingBy, IsPermutation}
use Rattle.fleet_model.specs.Rows.{bases}
use Rattle.fleet_model.specs.Fleet.{family}
use Rattle.hull.specs.declared.point.Point.{Point}
use Rattle.family_points.specs.declared.order.Base.{Base}
use Rattle.family_points.specs.declared.order.Choice.{Choice}
use Rattle.family_points.specs.declared.order.ShopVector.{ShopVector}
use Rattle.family_points.specs.Points.{ScoreEnds, cost_above}
use Rattle.family_points.specs.Separation.{base_point}
use Rattle.family_points.specs.Inputs.{AreShopsAt, FamilyBox, held_at, line_high, line_low, line_stocks, shop_vectors}

-- stocks of the shop units at base j, with their cost together with the line unit's least stock
pub record IsShopVector (x : FamilyBox) (j : ℕ) (v : ShopVector) : Type 0 where
  pub within : AreShopsAt x j v.stocks
  pub cost : v.cost ≡ cost_above x.case (family x.case x.line) (held_at x j) (line_low x j ∷ v.stocks)

-- all stocks of base j: each stock of the line unit, for each vector of its shop units
abbrev pub turned_stocks : FamilyBox → ℕ → List (List ℕ)
turned_stocks x j = flat_map (λ shops. map (λ s. s ∷ shops) (line_stocks x j)) (shop_vectors x j)

-- the stocks of a choice at base j
abbrev pub choice_stocks : FamilyBox → ℕ → Choice → List ℕ
choice_stocks x j v = v.line ∷ get_or (shop_vectors x j) v.shops []

-- the point of a choice, if the depot has the stocks d
abbrev pub choice_point : ScoreEnds → FamilyBox → List ℕ → ℕ → Choice → Point
choice_point ends x d j v = base_point ends x d j (choice_stocks x j v)

-- a choice at base j, with its cost
pub record IsChoice (x : FamilyBox) (j : ℕ) (v : Choice) : Type 0 where
  pub place : v.shops < length (shop_vectors x j)
  pub least : line_low x j ≤ v.line
  pub most : v.line ≤ line_high x j
  pub cost : v.cost ≡ cost_above x.case (family x.case x.line) (held_at x j) (choice_stocks x j v)

-- all choices at base j by rising cost
pub record IsOrder (x : FamilyBox) (j : ℕ) (order : List Choice) : Type 0 where
  pub all : IsPermutation (turned_stocks x j) (map (choice_stocks x j) order)
  pub choices : All (IsChoice x j) order
  pub rises : IsNonDecreasingBy (λ (v : Choice). v.cost) order

-- the data of base j: the shop units' vectors with their costs, and the order of all choices
pub record IsBaseOf (x : FamilyBox) (j : ℕ) (b : Base) : Type 0 where
  pub stocks : map (λ (v : ShopVector). v.stocks) b.shops.items ≡ shop_vectors x j
  pub are_vectors : All (IsShopVector x j) b.shops.items
  pub order : IsOrder x j b.order.items

-- the data of each base of the case in turn
abbrev pub AreBases : FamilyBox → List Base → Type 0
AreBases x bs = AllZip (IsBaseOf x) (bases x.case) bs
