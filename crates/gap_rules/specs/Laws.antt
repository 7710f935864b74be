-- The laws of covers and accepted certificates.
use Rattle.std.specs.Prelude.{◌≡◌, ℕ, ◌≤◌, List, [], ◌∷◌, map, Some, None}
use Rattle.hull.specs.declared.point.Point.{Point}
use Rattle.hull.specs.declared.price.Price.{Price}
use Rattle.hull.specs.Curves.{lagrangian, Among}
use Rattle.spares_input.specs.Cases.{CaseRows, IsCase}
use Rattle.spares_input.specs.Stocks.{StockList, IsFor}
use Rattle.fleet_model.specs.Rows.{line_units}
use Rattle.price_bounds.specs.Certificates.{Claims, IsAcceptable}
use Rattle.family_points.specs.declared.bounds.Bounds.{Bounds}
use Rattle.family_points.specs.Vectors.{vector_of, limits}
use Rattle.family_points.specs.Points.{points_within, ScoreEnds}
use Rattle.price_certificate.specs.declared.certificate.Node.{Node}
use Rattle.price_certificate.specs.declared.certificate.Certificate.{Certificate}
use Rattle.price_certificate.specs.Certificates.{IsWellFormed}
use Rattle.gap_rules.specs.declared.leaf.Leaf.{Leaf}
use Rattle.gap_rules.specs.Covers.{leaves, box_of, IsIn}
use Rattle.gap_rules.specs.Values.{value_of_leaf}
use Rattle.gap_rules.specs.Refusals.{reject_of, chosen_of}

-- a leaf with the vector
pub record HasLeaf (ls : List Leaf) (v : List ℕ) : Type 0 where
  pub leaf : Leaf
  pub among : Among leaf ls
  pub inside : IsIn v (box_of leaf)

-- Each vector of a box lies in a leaf of each tree of the box.
abbrev pub LeavesCover : Type 0
LeavesCover = (nodes : List Node) (box : Bounds) (ls : List Leaf) (v : List ℕ) → leaves nodes (box ∷ []) ≡ Some ls
    → IsIn v box → HasLeaf ls v

-- no vector lies in two of the boxes
abbrev pub AreApart : List Bounds → Type 0
AreApart [] = Unit {0}
AreApart (box ∷ boxes) = ((other : Bounds) (v : List ℕ) → Among other boxes → IsIn v box → IsIn v other → ⊥)
    × AreApart boxes

-- No vector lies in two leaves of a tree.
abbrev pub LeavesAreApart : Type 0
LeavesAreApart = (nodes : List Node) (box : Bounds) (ls : List Leaf) → leaves nodes (box ∷ []) ≡ Some ls
    → AreApart (map box_of ls)

-- If a floor is at most each leaf's value, it is at most the Lagrangian of each vector.
abbrev pub FloorsHold : Type 0
FloorsHold = (score : ScoreEnds) (c : CaseRows) (l : ℕ) (price : Price) (nodes : List Node) (box : Bounds)
    (ls : List Leaf) (floor : ℕ)
    → leaves nodes (box ∷ []) ≡ Some ls → ((x : Leaf) → Among x ls → floor ≤ value_of_leaf c l score price x)
    → (w : Point) → Among w (points_within c l score box.held box.low box.high) → floor ≤ lagrangian price.p price.q w

-- the points of all families, from the held stocks to the limits
abbrev pub family_points_of : ScoreEnds → CaseRows → StockList → List (List Point)
family_points_of score c held = map (λ l. points_within c l score (vector_of c l held.list) (vector_of c l held.list)
    (limits c l)) (line_units c)

-- the claims of a certificate: its chosen points, price, floors, upper end and bound
abbrev pub claims_of : ScoreEnds → Certificate → StockList → Claims
claims_of score cert held = record {
  chosen = chosen_of score cert held;
  price = cert.price;
  floors = cert.floors;
  upper = cert.upper;
  bound = cert.bound;
}

-- A certificate that breaks no rule is acceptable over the points of the families.
abbrev pub AcceptedAreAcceptable : Type 0
AcceptedAreAcceptable = (score : ScoreEnds) (cert : Certificate) (held : StockList) → IsCase cert.case
    → IsWellFormed cert
    → IsFor cert.case held → reject_of score cert held ≡ None
    → IsAcceptable (family_points_of score cert.case held) cert.budget (claims_of score cert held)
