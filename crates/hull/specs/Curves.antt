-- The curve of a list of points.
use Rattle.std.specs.Prelude.{◌≡◌, ℕ, zero, suc, ◌+◌, ◌-◌, ◌*◌, ◌<◌, ◌≤◌, ◌⊎◌, List, [], ◌∷◌, ◌++◌, length, slice_index_or}
use Rattle.hull.specs.declared.point.Point.{Point}
use Rattle.hull.specs.Limits.{most_cost, end_limit, most_points}

-- q times the lower end and p times the cost of a point
abbrev pub lagrangian : ℕ → ℕ → Point → ℕ
lagrangian p q v = q * v.lo + p * v.cost

-- the two points have the same cost and the same lower end
pub record SamePlace (v w : Point) : Type 0 where
  pub cost : v.cost ≡ w.cost
  pub lo : v.lo ≡ w.lo

-- x is an element of the list
abbrev pub Among : {X : Type 0} → X → List X → Type 0
Among x [] = ⊥
Among x (y ∷ ys) = (x ≡ y) ⊎ Among x ys

-- at the price p/q, v has the least Lagrangian, and every point of another place a larger one
pub record IsVertexAt (p q : ℕ) (points : List Point) (v : Point) : Type 0 where
  pub p_positive : 0 < p
  pub q_positive : 0 < q
  pub alone : (w : Point) → Among w points → SamePlace w v ⊎ (lagrangian p q v < lagrangian p q w)

-- v is a vertex at some price
pub record IsVertex (points : List Point) (v : Point) : Type 0 where
  pub p : ℕ
  pub q : ℕ
  pub at : IsVertexAt p q points v

-- xs equals ys or comes before it in dictionary order
abbrev pub IsFirstOf : List ℕ → List ℕ → Type 0
IsFirstOf [] ys = Unit {0}
IsFirstOf (x ∷ xs) [] = ⊥
IsFirstOf (x ∷ xs) (y ∷ ys) = (x < y) ⊎ ((x ≡ y) × IsFirstOf xs ys)

-- each point costs more than the one before
abbrev pub Rises : List Point → Type 0
Rises [] = Unit {0}
Rises (v ∷ []) = Unit {0}
Rises (v ∷ w ∷ rest) = (v.cost < w.cost) × Rises (w ∷ rest)

-- the curve lists the vertices of the points by cost, each with its first stocks
pub record IsCurve (points curve : List Point) : Type 0 where
  pub rises : Rises curve
  pub among : (v : Point) → Among v curve → Among v points
  pub vertices : (v : Point) → Among v curve → IsVertex points v
  pub firsts : (v w : Point) → Among v curve → Among w points → SamePlace w v → IsFirstOf v.stocks w.stocks
  pub complete : (w : Point) → Among w points → IsVertex points w → (v : Point) × Among v curve × SamePlace v w

-- `kept` suffices for the curve: it has each vertex of all points, with the first stocks of its place
pub record StandFor (points kept : List Point) : Type 0 where
  pub among : (v : Point) → Among v kept → Among v points
  pub covers : (w : Point) → Among w points → IsVertex points w → (v : Point) × Among v kept × SamePlace v w
      × IsFirstOf v.stocks w.stocks

-- from v to w the cost rises and the lower end falls
pub record Steps (v w : Point) : Type 0 where
  pub cost : v.cost < w.cost
  pub lo : w.lo < v.lo

-- the step from v to w falls less per money than the step from u to v
abbrev pub Turns : Point → Point → Point → Type 0
Turns u v w = (v.lo - w.lo) * (v.cost - u.cost) < (u.lo - v.lo) * (w.cost - v.cost)

-- the step from u to v turns into the step from v to the first of the rest
abbrev pub TurnsInto : Point → Point → List Point → Type 0
TurnsInto u v [] = Unit {0}
TurnsInto u v (w ∷ rest) = Turns u v w

-- each step falls less per money than the one before
abbrev pub IsChain : List Point → Type 0
IsChain [] = Unit {0}
IsChain (v ∷ []) = Unit {0}
IsChain (u ∷ v ∷ rest) = Steps u v × TurnsInto u v rest × IsChain (v ∷ rest)

-- the numbers of a point are within their limits
pub record InRange (v : Point) : Type 0 where
  pub cost : v.cost ≤ most_cost
  pub ends : v.lo ≤ v.hi
  pub hi : v.hi < end_limit

-- all points have stocks of one length
abbrev pub HaveOneWidth : List Point → Type 0
HaveOneWidth points = (v w : Point) → Among v points → Among w points → length v.stocks ≡ length w.stocks

-- the shape of the vertices of each curve
pub record IsShape (vertices : List Point) : Type 0 where
  pub some : 0 < length vertices
  pub few : length vertices ≤ most_points
  pub chain : IsChain vertices
  pub ranges : (v : Point) → Among v vertices → InRange v
  pub widths : HaveOneWidth vertices

-- no point of the list has a smaller Lagrangian than v at the price p/q
abbrev pub IsLeastAt : ℕ → ℕ → List Point → Point → Type 0
IsLeastAt p q points v = (w : Point) → Among w points → lagrangian p q v ≤ lagrangian p q w

-- a placeholder point
abbrev pub nowhere : Point
nowhere = record { cost = 0; lo = 0; hi = 0; stocks = [] }

-- the point at the place k of a list, from 0 on
abbrev pub point_at : List Point → ℕ → Point
point_at points k = slice_index_or points k nowhere

-- the first place of a list at which the Lagrangian at the price p/q is least
pub record IsBestAt (p q : ℕ) (points : List Point) (at : ℕ) : Type 0 where
  pub below : at < length points
  pub before : (k : ℕ) → k < at → lagrangian p q (point_at points at) < lagrangian p q (point_at points k)
  pub least : (k : ℕ) → k < length points → lagrangian p q (point_at points at) ≤ lagrangian p q (point_at points k)

-- the price p/q stops a chain at a place: each step up to it falls at least as much per money, and the next at most as
-- much
abbrev pub StopsAt : ℕ → ℕ → List Point → ℕ → Type 0
StopsAt p q [] m = ⊥
StopsAt p q (v ∷ []) zero = Unit {0}
StopsAt p q (v ∷ []) (suc m) = ⊥
StopsAt p q (v ∷ w ∷ rest) zero = (v.lo - w.lo) * q ≤ p * (w.cost - v.cost)
StopsAt p q (v ∷ w ∷ rest) (suc m) = (p * (w.cost - v.cost) ≤ (v.lo - w.lo) * q) × StopsAt p q (w ∷ rest) m

-- the sum of two points: the stocks of the first, then of the second
abbrev pub plus : Point → Point → Point
plus v w = record { cost = v.cost + w.cost; lo = v.lo + w.lo; hi = v.hi + w.hi; stocks = v.stocks ++ w.stocks }

-- the sums of a point with each of a list
abbrev pub plus_each : Point → List Point → List Point
plus_each v [] = []
plus_each v (w ∷ ws) = plus v w ∷ plus_each v ws

-- all sums of a point of the first list and a point of the second
abbrev pub sums : List Point → List Point → List Point
sums [] ws = []
sums (v ∷ vs) ws = plus_each v ws ++ sums vs ws
