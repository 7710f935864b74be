-- The part of a curve between two prices. The low price is the flat one: little backorder for the money.
use Rattle.std.specs.Prelude.{ℕ, ◌*◌, ◌<◌, ◌≤◌, List}
use Rattle.hull.specs.declared.point.Point.{Point}
use Rattle.hull.specs.declared.price.Price.{Price}
use Rattle.hull.specs.Curves.{lagrangian, SamePlace, Among, IsVertex, IsFirstOf, Rises, IsLeastAt}

-- the price p/q is above 0 and lies between low and high, both included
pub record IsPriceBetween (low high : Price) (p q : ℕ) : Type 0 where
  pub p_positive : 0 < p
  pub q_positive : 0 < q
  pub from : low.p * q ≤ p * low.q
  pub to : p * high.q ≤ high.p * q

-- v is a vertex, and has the least Lagrangian at some price from low to high
pub record IsVertexBetween (low high : Price) (points : List Point) (v : Point) : Type 0 where
  pub p : ℕ
  pub q : ℕ
  pub between : IsPriceBetween low high p q
  pub least : IsLeastAt p q points v
  pub vertex : IsVertex points v

-- the part lists the vertices between two prices by cost, each with its first stocks
pub record IsPartOf (low high : Price) (points part : List Point) : Type 0 where
  pub rises : Rises part
  pub among : (v : Point) → Among v part → Among v points
  pub vertices : (v : Point) → Among v part → IsVertexBetween low high points v
  pub firsts : (v w : Point) → Among v part → Among w points → SamePlace w v → IsFirstOf v.stocks w.stocks
  pub complete : (w : Point) → Among w points → IsVertexBetween low high points w
      → (v : Point) × Among v part × SamePlace v w

-- `kept` suffices for the part: it has each vertex between the prices, with the first stocks of its place
pub record StandForBetween (low high : Price) (points kept : List Point) : Type 0 where
  pub among : (v : Point) → Among v kept → Among v points
  pub covers : (w : Point) → Among w points → IsVertexBetween low high points w
      → (v : Point) × Among v kept × SamePlace v w × IsFirstOf v.stocks w.stocks

-- at the price v has a smaller Lagrangian than w
abbrev pub IsBelowAt : Price → Point → Point → Type 0
IsBelowAt price v w = lagrangian price.p price.q v < lagrangian price.p price.q w

-- one of the points has a smaller Lagrangian than w at both prices
abbrev pub IsPassedOver : Price → Price → List Point → Point → Type 0
IsPassedOver low high points w = (v : Point) × Among v points × IsBelowAt low v w × IsBelowAt high v w
