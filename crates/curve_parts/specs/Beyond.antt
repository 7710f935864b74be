-- What is known of the vertices behind a part: at the low price they lie as high as a number, or higher.
use Rattle.std.specs.Prelude.{ℕ, ◌≤◌, ◌⊎◌, List}
use Rattle.hull.specs.declared.point.Point.{Point}
use Rattle.hull.specs.declared.price.Price.{Price}
use Rattle.hull.specs.Curves.{lagrangian, SamePlace, Among}
use Rattle.curve_parts.specs.Parts.{IsPartOf, IsVertexBetween}

-- no price at all, from which on all prices are
abbrev pub no_price : Price
no_price = record { p = 0; q = 1 }

-- one of the points is at the place of w
abbrev pub HavePlaceOf : List Point → Point → Type 0
HavePlaceOf points w = (v : Point) × Among v points × SamePlace v w

-- Each vertex of the points that is best at some price up to `low` has its place among the known ones, or its
-- Lagrangian at `low` is `beyond` or more.
abbrev pub LieBeyond : Price → List Point → List Point → ℕ → Type 0
LieBeyond low points known beyond = (w : Point) → Among w points → IsVertexBetween no_price low points w
    → HavePlaceOf known w ⊎ (beyond ≤ lagrangian low.p low.q w)

-- the part lists the vertices between two prices, and all vertices behind it lie as high as `beyond`, or higher
pub record IsKnownPart (low high : Price) (points part : List Point) (beyond : ℕ) : Type 0 where
  pub is : IsPartOf low high points part
  pub behind : LieBeyond low points part beyond
