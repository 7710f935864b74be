-- Laws of curves.
use Rattle.std.specs.Prelude.{◌≡◌, ℕ, ◌<◌, ◌≤◌, ◌↔◌, List, ◌∷◌, [], ◌++◌}
use Rattle.hull.specs.declared.point.Point.{Point}
use Rattle.hull.specs.Curves.{Among, IsChain, IsCurve, IsLeastAt, HaveOneWidth, sums}

-- a chain is its own curve; so is a single point
abbrev pub ChainIsOwnCurve : Type 0
ChainIsOwnCurve = (points : List Point) → IsChain points → IsCurve points points

-- the curve of two curves' vertices together is the curve of all their points
abbrev pub JoinsCurves : Type 0
JoinsCurves = (ps qs c d e : List Point) → IsCurve ps c → IsCurve qs d → IsCurve (c ++ d) e → IsCurve (ps ++ qs) e

-- the same for all sums of two points, if the stocks of the first points have one length
abbrev pub AddsCurves : Type 0
AddsCurves = (ps qs c d e : List Point) → IsCurve ps c → IsCurve qs d → HaveOneWidth ps → IsCurve (sums c d) e
    → IsCurve (sums ps qs) e

-- a curve depends only on the set of its points, not on their order or number of occurrences
abbrev pub IsOfMembers : Type 0
IsOfMembers = (points other curve : List Point) → ((v : Point) → Among v points ↔ Among v other) → IsCurve points curve
    → IsCurve other curve

-- points with the same stocks are the same
abbrev pub StocksTell : List Point → Type 0
StocksTell points = (v w : Point) → Among v points → Among w points → v.stocks ≡ w.stocks → v ≡ w

-- points have only one curve, if those with the same stocks are equal
abbrev pub HasOneCurve : Type 0
HasOneCurve = (points curve other : List Point) → StocksTell points → IsCurve points curve → IsCurve points other
    → curve ≡ other

-- a vertex with the least Lagrangian on a curve has the least of all points
abbrev pub ReachesLeast : Type 0
ReachesLeast = (points curve : List Point) (p q : ℕ) → 0 < q → IsCurve points curve → (v : Point)
    → IsLeastAt p q curve v → IsLeastAt p q points v

-- on a curve the cost rises, the lower end falls, and each step falls less per money than the one before
abbrev pub IsConvex : Type 0
IsConvex = (points curve : List Point) → IsCurve points curve → IsChain curve

-- no point costs less than a curve's first one
abbrev pub BeginsCheapest : Type 0
BeginsCheapest = (points rest : List Point) (v w : Point) → IsCurve points (v ∷ rest) → Among w points → v.cost ≤ w.cost

-- no point has a smaller lower end than a curve's last one
abbrev pub EndsLowest : Type 0
EndsLowest = (points front : List Point) (v w : Point) → IsCurve points (front ++ v ∷ []) → Among w points → v.lo ≤ w.lo
