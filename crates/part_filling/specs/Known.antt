-- What is known of the curves of families while picks are filled.
use Rattle.std.specs.Prelude.{◌≡◌, ℕ, ◌+◌, ◌-◌, ◌*◌, ◌<◌, ◌≤◌, ◌⊎◌, List, Option, Some, None, length, slice_index, slice_index_or}
use Rattle.hull.specs.declared.point.Point.{Point}
use Rattle.hull.specs.declared.price.Price.{Price}
use Rattle.hull.specs.Curves.{point_at}
use Rattle.hull.specs.Limits.{most_price_money}
use Rattle.step_walk.specs.Prefix.{AreVertices, curve_at, picked, vertex_at}
use Rattle.marginal_alloc.specs.declared.change.Change.{Change}
use Rattle.marginal_alloc.specs.Choice.{AreCurves}
use Rattle.marginal_alloc.specs.Filling.{IsBestChange, IsFull}
use Rattle.curve_parts.specs.Parts.{IsPartOf}
use Rattle.curve_parts.specs.Cuts.{IsSmall, IsWindow}
use Rattle.curve_parts.specs.Beyond.{LieBeyond}
use Rattle.part_filling.specs.declared.window.Window.{Window}

-- both prices are above 0 and finite, and their numbers are within their limits
pub record IsPriceWindow (low high : Price) : Type 0 where
  pub window : IsWindow low high
  pub low_price : 0 < low.p
  pub high_money : 0 < high.q
  pub low_small : IsSmall low
  pub high_small : IsSmall high

-- a placeholder window
abbrev pub no_window : Window
no_window = record { low = record { p = 0; q = 0 }; high = record { p = 0; q = 0 } }

-- the prices between which the curve of family f is known
abbrev pub window_at : List Window → ℕ → Window
window_at windows f = slice_index_or windows f no_window

-- of each family the part of its curve between its two prices is known, and how high all vertices behind it lie
pub record AreKnown (families known : List (List Point)) (windows : List Window) (beyond : List ℕ) : Type 0 where
  pub count : length families ≡ length known
  pub windows_count : length windows ≡ length known
  pub beyond_count : length beyond ≡ length known
  pub prices : (f : ℕ) → f < length known → IsPriceWindow (window_at windows f).low (window_at windows f).high
  pub parts : (f : ℕ) → f < length known
      → IsPartOf (window_at windows f).low (window_at windows f).high (curve_at families f) (curve_at known f)
  pub behind : (f : ℕ) → f < length known
      → LieBeyond (window_at windows f).low (curve_at families f) (curve_at known f) (slice_index beyond f)

-- all vertices behind a part of each family lie as high as its number at the low price
pub record AllLieBeyond (low : Price) (families parts : List (List Point)) (beyond : List ℕ) : Type 0 where
  pub count : length beyond ≡ length parts
  pub each : (f : ℕ) → f < length parts → LieBeyond low (curve_at families f) (curve_at parts f) (slice_index beyond f)

-- the picks at these places of the curves are the picks of what is known
pub record ArePlaces (curves : List (List Point)) (places : List ℕ) (known : List (List Point)) (picks : List ℕ) :
    Type 0 where
  pub vertices : AreVertices curves places
  pub same : picked curves places ≡ picked known picks

-- the best change of what is known is to the same vertex as the best change of the whole curves, or neither has one
abbrev pub IsFound : List (List Point) → ℕ → List (List Point) → List ℕ → Option Change → Type 0
IsFound families budget known picks None = (curves : List (List Point)) (places : List ℕ) → AreCurves families curves
    → ArePlaces curves places known picks → IsFull curves budget places
IsFound families budget known picks (Some c) = (curves : List (List Point)) (places : List ℕ)
    → AreCurves families curves → ArePlaces curves places known picks
    → (k : ℕ) × IsBestChange curves budget places c.family k
    × (vertex_at curves c.family k ≡ vertex_at known c.family c.vertex)

-- No vertex before the first known one is lower than the pick: at the high price the first one is least of all points.
abbrev pub HasNoneBefore : Price → Point → Point → Type 0
HasNoneBefore high first pick = pick.hi * high.q ≤ first.lo * high.q + high.p

-- There is no vertex behind the last known one, because a step falls at least 1 for at most 10^12; or those that cost
-- at most `left` more than the pick are not lower by `most` or more: at the low price they lie as high as `beyond`.
abbrev pub HasNoneBehind : Price → ℕ → Point → Point → ℕ → ℕ → Type 0
HasNoneBehind low beyond last pick left most = (low.p * most_price_money ≤ low.q) ⊎ (pick.cost + left ≤ last.cost)
    ⊎ (low.q * pick.hi + low.p * (pick.cost + left) < beyond + low.q * most)

-- no vertex that isn't known can change the pick of this curve by as much
pub record HasNoBetter (low high : Price) (beyond : ℕ) (known : List Point) (pick left most : ℕ) : Type 0 where
  pub before : HasNoneBefore high (point_at known 0) (point_at known pick)
  pub behind : HasNoneBehind low beyond (point_at known (length known - 1)) (point_at known pick) left most

-- nor the pick of family f
abbrev pub IsSettled : List Window → List ℕ → List (List Point) → List ℕ → ℕ → ℕ → ℕ → Type 0
IsSettled windows beyond known picks left most f = HasNoBetter (window_at windows f).low (window_at windows f).high
    (slice_index beyond f) (curve_at known f) (slice_index picks f) left most

-- a vertex of the list has this cost
pub record HasCost (vertices : List Point) (cost : ℕ) : Type 0 where
  pub place : ℕ
  pub below : place < length vertices
  pub is : (point_at vertices place).cost ≡ cost
