-- Laws of parts of curves.
use Rattle.std.specs.Prelude.{◌≡◌, ℕ, ◌+◌, ◌<◌, ◌≤◌, ◌⊎◌, ◌↔◌, List, [], ◌∷◌, ◌++◌, length, flat_map, sum}
use Rattle.std.specs.List.{AllZip, AllByRecursion}
use Rattle.hull.specs.declared.point.Point.{Point}
use Rattle.hull.specs.declared.price.Price.{Price}
use Rattle.hull.specs.Curves.{lagrangian, Among, IsVertexAt, IsCurve, IsLeastAt, IsChain, HaveOneWidth, plus, sums}
use Rattle.hull.specs.Laws.{StocksTell}
use Rattle.curve_parts.specs.Cuts.{IsWindow, IsCutOf, IsWithin}
use Rattle.curve_parts.specs.Joins.{AreBounds, PassesAbove}
use Rattle.sum_walk.specs.Sums.{sums_of_each}
use Rattle.curve_parts.specs.Parts.{IsPriceBetween, IsVertexBetween, IsPartOf, StandForBetween, IsPassedOver}

-- a point that alone has the least Lagrangian at some price between is a vertex between
abbrev pub AloneIsBetween : Type 0
AloneIsBetween = (low high : Price) (points : List Point) (v : Point) (p q : ℕ) → IsPriceBetween low high p q
    → IsVertexAt p q points v → IsVertexBetween low high points v

-- the part of points that suffice for all is the part of all
abbrev pub PartOfStanding : Type 0
PartOfStanding = (low high : Price) (points kept part : List Point) → StandForBetween low high points kept
    → IsPartOf low high kept part → IsPartOf low high points part

-- a part suffices for its points
abbrev pub PartStands : Type 0
PartStands = (low high : Price) (points part : List Point) → IsPartOf low high points part
    → StandForBetween low high points part

-- if each point that is left out lies above one of the points at both prices, the others suffice for all
abbrev pub PassesOver : Type 0
PassesOver = (low high : Price) (points kept : List Point) → ((v : Point) → Among v kept → Among v points)
    → ((w : Point) → Among w points → Among w kept ⊎ IsPassedOver low high points w)
    → StandForBetween low high points kept

-- the part of two parts' vertices together is the part of all their points
abbrev pub JoinsParts : Type 0
JoinsParts = (low high : Price) (ps qs c d e : List Point) → IsPartOf low high ps c → IsPartOf low high qs d
    → IsPartOf low high (c ++ d) e → IsPartOf low high (ps ++ qs) e

-- the same for all sums of two points, if the stocks of the first points have one length
abbrev pub AddsParts : Type 0
AddsParts = (low high : Price) (ps qs c d e : List Point) → IsPartOf low high ps c → IsPartOf low high qs d
    → HaveOneWidth ps → IsPartOf low high (sums c d) e → IsPartOf low high (sums ps qs) e

-- a vertex of the sums, between the prices, is the sum of such a vertex of each list
abbrev pub SumIsOfVertices : Type 0
SumIsOfVertices = (low high : Price) (ps qs : List Point) (v w : Point) → Among v ps → Among w qs
    → IsVertexBetween low high (sums ps qs) (plus v w) → IsVertexBetween low high ps v × IsVertexBetween low high qs w

-- the part of the sums of several parts' vertices is the part of the sums of all their points
abbrev pub AddsPartsOfEach : Type 0
AddsPartsOfEach = (low high : Price) (lists parts : List (List Point)) (ps c e : List Point) → IsPartOf low high ps c
    → HaveOneWidth ps → AllByRecursion HaveOneWidth lists → AllZip (IsPartOf low high) lists parts
    → IsPartOf low high (sums_of_each c parts) e → IsPartOf low high (sums_of_each ps lists) e

-- a vertex with the least Lagrangian on a part, at a price between, has the least of all points
abbrev pub PartReachesLeast : Type 0
PartReachesLeast = (low high : Price) (points part : List Point) (p q : ℕ) → IsPriceBetween low high p q
    → IsPartOf low high points part → (v : Point) → IsLeastAt p q part v → IsLeastAt p q points v

-- lower bounds of several lists add up to one of their sums
abbrev pub BoundsAdd : Type 0
BoundsAdd = (price : Price) (lists : List (List Point)) (bounds : List ℕ) (first w : Point)
    → AreBounds price lists bounds → Among w (sums_of_each (first ∷ []) lists)
    → lagrangian price.p price.q first + sum bounds ≤ lagrangian price.p price.q w

-- if such bounds at both prices are above one of the points, all sums are passed over
abbrev pub PassesOverSums : Type 0
PassesOverSums = (low high : Price) (lists : List (List Point)) (at_low at_high : List ℕ) (first : Point)
    (points : List Point) → AreBounds low lists at_low → AreBounds high lists at_high
    → PassesAbove low high (lagrangian low.p low.q first + sum at_low) (lagrangian high.p high.q first + sum at_high)
    points
    → (w : Point) → Among w (sums_of_each (first ∷ []) lists) → IsPassedOver low high points w

-- between the least and the largest price the part is the curve
abbrev pub PartIsWhole : Type 0
PartIsWhole = (points list : List Point)
    → IsPartOf (record { p = 0; q = 1 }) (record { p = 1; q = 0 }) points list ↔ IsCurve points list

-- if points suffice for each of two lists, their sums suffice for the lists' sums, if the stocks of the first list have
-- one length
abbrev pub SumsStand : Type 0
SumsStand = (low high : Price) (ps qs c d : List Point) → StandForBetween low high ps c → StandForBetween low high qs d
    → HaveOneWidth ps → StandForBetween low high (sums ps qs) (sums c d)

-- and the points of both suffice for both lists together
abbrev pub BothStand : Type 0
BothStand = (low high : Price) (ps qs c d : List Point) → StandForBetween low high ps c → StandForBetween low high qs d
    → StandForBetween low high (ps ++ qs) (c ++ d)

-- the first vertex of a part has the least Lagrangian of all points at the high price
abbrev pub FirstIsLeast : Type 0
FirstIsLeast = (low high : Price) (points after : List Point) (first : Point)
    → IsPriceBetween low high high.p high.q → IsPartOf low high points (first ∷ after)
    → IsLeastAt high.p high.q points first

-- the last vertex of a part has the least Lagrangian of all points at the low price
abbrev pub LastIsLeast : Type 0
LastIsLeast = (low high : Price) (points before : List Point) (last : Point)
    → IsPriceBetween low high low.p low.q → IsPartOf low high points (before ++ last ∷ [])
    → IsLeastAt low.p low.q points last

-- the part of a curve's vertices is the part of its points
abbrev pub PartOfCurve : Type 0
PartOfCurve = (low high : Price) (points curve part : List Point) → IsCurve points curve → IsPartOf low high curve part
    → IsPartOf low high points part

-- a curve, cut at two prices, is the part of its points
abbrev pub CutIsPart : Type 0
CutIsPart = (low high : Price) (points curve part : List Point) → IsWindow low high → IsCurve points curve
    → IsCutOf low high curve part → IsPartOf low high points part

-- a chain that suffices for points, cut at the two prices, is their part
abbrev pub CutOfStanding : Type 0
CutOfStanding = (low high : Price) (points kept part : List Point) → IsWindow low high → IsChain kept
    → StandForBetween low high points kept → IsCutOf low high kept part → IsPartOf low high points part

-- if points with the same stocks are equal, their part is their curve cut at the two prices
abbrev pub PartIsCut : Type 0
PartIsCut = (low high : Price) (points curve part : List Point) → StocksTell points → 0 < length points
    → IsWindow low high → IsCurve points curve → IsPartOf low high points part → IsCutOf low high curve part

-- the part of such points has exactly the curve's vertices that are vertices between the prices
abbrev pub PartHasThose : Type 0
PartHasThose = (low high : Price) (points curve part : List Point) → StocksTell points → IsCurve points curve
    → IsPartOf low high points part
    → (v : Point) → Among v part ↔ (Among v curve × IsVertexBetween low high points v)

-- the part of a part, between nearer prices, is the part of its points
abbrev pub PartOfPart : Type 0
PartOfPart = (low high least most : Price) (points wide part : List Point) → IsWindow low high
    → IsWithin low high least most → IsPartOf least most points wide → IsPartOf low high wide part
    → IsPartOf low high points part

-- more points may be left out, if each lies above one of the points at both prices
abbrev pub LeavesOut : Type 0
LeavesOut = (low high : Price) (points kept more : List Point) → StandForBetween low high points kept
    → ((w : Point) → Among w more → IsPassedOver low high points w) → StandForBetween low high (points ++ more) kept

-- then the part of the points is the part of all
abbrev pub PartLeavesOut : Type 0
PartLeavesOut = (low high : Price) (points part more : List Point) → IsPartOf low high points part
    → ((w : Point) → Among w more → IsPassedOver low high points w) → IsPartOf low high (points ++ more) part

-- a vector of the depot may be left out if each of its points lies above one of all points at both prices
abbrev pub PassesOverVectors : Type 0
PassesOverVectors = (low high : Price) (points : List ℕ → List Point) (vectors kept : List (List ℕ))
    → ((d : List ℕ) → Among d kept → Among d vectors)
    → ((d : List ℕ) → Among d vectors → Among d kept
    ⊎ ((w : Point) → Among w (points d) → IsPassedOver low high (flat_map points vectors) w))
    → StandForBetween low high (flat_map points vectors) (flat_map points kept)

-- points have only one part, if those with the same stocks are equal
abbrev pub HasOnePart : Type 0
HasOnePart = (low high : Price) (points part other : List Point) → StocksTell points → IsPartOf low high points part
    → IsPartOf low high points other → part ≡ other

-- on a part the cost rises, the lower end falls, and each step falls less per money than the one before
abbrev pub PartIsConvex : Type 0
PartIsConvex = (low high : Price) (points part : List Point) → IsPartOf low high points part → IsChain part

-- a part has a vertex, if there are points and a price between
abbrev pub PartHasVertex : Type 0
PartHasVertex = (low high : Price) (points part : List Point) → 0 < length points → IsWindow low high
    → IsPartOf low high points part → 0 < length part

-- a part depends only on the set of its points, not on their order or number of occurrences
abbrev pub PartOfMembers : Type 0
PartOfMembers = (low high : Price) (points other part : List Point) → ((v : Point) → Among v points ↔ Among v other)
    → IsPartOf low high points part → IsPartOf low high other part

-- every list of points has a part
abbrev pub HasPart : Type 0
HasPart = (low high : Price) (points : List Point) → IsWindow low high
    → (part : List Point) × IsPartOf low high points part

-- every list of points has a curve
abbrev pub HasCurve : Type 0
HasCurve = (points : List Point) → (curve : List Point) × IsCurve points curve
