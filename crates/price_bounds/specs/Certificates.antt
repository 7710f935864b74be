-- Certificates: their contents, and which are acceptable.
use Rattle.std.specs.Prelude.{◌≡◌, ℕ, ◌<◌, ◌≤◌, List, [], ◌∷◌, sum}
use Rattle.hull.specs.declared.point.Point.{Point}
use Rattle.hull.specs.declared.price.Price.{Price}
use Rattle.hull.specs.Curves.{lagrangian, Among}
use Rattle.price_bounds.specs.Sums.{cost_of, hi_of, Picks, bound_of}

-- no point of a family has a Lagrangian below its claimed floor
abbrev pub AreFloors : Price → List (List Point) → List ℕ → Type 0
AreFloors price [] [] = Unit {0}
AreFloors price [] (c ∷ cs) = ⊥
AreFloors price (points ∷ families) [] = ⊥
AreFloors price (points ∷ families) (c ∷ cs) = ((w : Point) → Among w points → c ≤ lagrangian price.p price.q w)
    × AreFloors price families cs

-- each floor is the least Lagrangian of the family's points
abbrev pub AreLeastFloors : Price → List (List Point) → List ℕ → Type 0
AreLeastFloors price [] [] = Unit {0}
AreLeastFloors price [] (c ∷ cs) = ⊥
AreLeastFloors price (points ∷ families) [] = ⊥
AreLeastFloors price (points ∷ families) (c ∷ cs) =
    ((w : Point) → Among w points → c ≤ lagrangian price.p price.q w)
    × ((w : Point) × Among w points × (lagrangian price.p price.q w ≡ c)) × AreLeastFloors price families cs

-- A price, the floors of all families at it, chosen points, the upper end of their sum, and the lower bound.
pub record Claims : Type 0 where
  pub chosen : List Point
  pub price : Price
  pub floors : List ℕ
  pub upper : ℕ
  pub bound : ℕ

-- The chosen points fit the budget, and the upper end and the bound follow from them and from the floors.
pub record IsAcceptable (families : List (List Point)) (budget : ℕ) (claims : Claims) : Type 0 where
  pub money : 0 < claims.price.q
  pub within : Picks families claims.chosen
  pub fits : cost_of claims.chosen ≤ budget
  pub floors : AreFloors claims.price families claims.floors
  pub upper : hi_of claims.chosen ≤ claims.upper
  pub bound : claims.bound ≤ bound_of claims.price.p claims.price.q (sum claims.floors) budget
