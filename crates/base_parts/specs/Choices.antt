-- The choices of the shop units' stocks at a base, of which some have a row of backorders and the others are passed
-- over. No promise of the crate rests on these words.
use Rattle.std.specs.Prelude.{ℕ, ◌<◌, ◌≤◌, ◌⊎◌, ◌↔◌, List, [], ◌∷◌, ◌++◌, flat_map, get_or, length}
use Rattle.fixed_interval.specs.Ends.{Ends}
use Rattle.hull.specs.declared.point.Point.{Point}
use Rattle.hull.specs.declared.price.Price.{Price}
use Rattle.hull.specs.Curves.{lagrangian, Among, IsCurve}
use Rattle.curve_parts.specs.Joins.{PassesAbove}
use Rattle.curve_parts.specs.Parts.{IsPassedOver}
use Rattle.family_points.specs.declared.order.Choice.{Choice}
use Rattle.family_points.specs.Choices.{choice_point}
use Rattle.family_points.specs.Inputs.{shop_vectors}
use Rattle.family_points.specs.Points.{ScoreEnds}
use Rattle.family_rows.specs.declared.base_at.BaseAt.{BaseAt}
use Rattle.family_rows.specs.Spots.{IsRowOf}
use Rattle.family_bases.specs.declared.lows.Lows.{Lows}

-- each row that isn't empty is that of its choice of the shop units' stocks
abbrev pub AreKept : BaseAt → List (List Ends) → Type 0
AreKept b rows = (n : ℕ) → n < length (shop_vectors b.family.now b.site.0) → 0 < length (get_or rows n [])
    → IsRowOf b n (get_or rows n [])

-- the point, if a row isn't empty
abbrev pub if_kept : List Ends → Point → List Point
if_kept [] v = []
if_kept (e ∷ row) v = v ∷ []

-- the point, if a row is empty
abbrev pub if_empty : List Ends → Point → List Point
if_empty [] v = v ∷ []
if_empty (e ∷ row) v = []

-- the point of a choice, if it has a row
abbrev pub kept_point : ScoreEnds → BaseAt → List (List Ends) → Choice → List Point
kept_point ends b rows v =
    if_kept (get_or rows v.shops []) (choice_point ends b.family.now b.depot.now b.site.0 v)

-- the points of the choices that have a row
abbrev pub kept_points : ScoreEnds → BaseAt → List (List Ends) → List Choice → List Point
kept_points ends b rows = flat_map (kept_point ends b rows)

-- the points of the choices that have none
abbrev pub other_points : ScoreEnds → BaseAt → List (List Ends) → List Choice → List Point
other_points ends b rows =
    flat_map (λ v. if_empty (get_or rows v.shops []) (choice_point ends b.family.now b.depot.now b.site.0 v))

-- the n-th bounds; past the last ones the look-up answers zeros
abbrev pub bounds_at : List Lows → ℕ → Lows
bounds_at lows n = get_or lows n (record { at_low = 0; at_high = 0 })

-- the choice with these bounds is passed over by the vertices, and lies as high as `passed` at the low price
pub record IsPassedBy (low high : Price) (vertices : List Point) (lows : Lows) (passed : ℕ) : Type 0 where
  pub above : PassesAbove low high lows.at_low lows.at_high vertices
  pub high_enough : passed ≤ lows.at_low

-- the n-th choice has a row, or is passed over
abbrev pub IsSettled : Price → Price → List Point → List (List Ends) → List Lows → ℕ → ℕ → Type 0
IsSettled low high vertices rows lows passed n =
    (0 < length (get_or rows n [])) ⊎ IsPassedBy low high vertices (bounds_at lows n) passed

-- The list is the curve of some of the points. Each other one lies above one of these at both prices, and as high as
-- `passed` at the low price.
pub record IsCurveWithout (low high : Price) (points made : List Point) (passed : ℕ) : Type 0 where
  pub kept : List Point
  pub others : List Point
  pub curve : IsCurve kept made
  pub all : (v : Point) → Among v (kept ++ others) ↔ Among v points
  pub over : (w : Point) → Among w others → IsPassedOver low high kept w
  pub high_enough : (w : Point) → Among w others → passed ≤ lagrangian low.p low.q w
