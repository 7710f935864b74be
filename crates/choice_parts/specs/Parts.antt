-- Curves of which only parts between two prices are known, as the choice of their steps sees them.
use Rattle.std.specs.Prelude.{◌≡◌, ℕ, ◌+◌, ◌*◌, ◌<◌, ◌≤◌, List, [], ◌∷◌, length, slice_index}
use Rattle.hull.specs.declared.point.Point.{Point}
use Rattle.hull.specs.declared.price.Price.{Price}
use Rattle.hull.specs.Curves.{Among, InRange}
use Rattle.step_walk.specs.Prefix.{HasStep, IsNext, curve_at, fall, rise, vertex_at}
use Rattle.marginal_alloc.specs.Promises.{StocksTellAll}
use Rattle.curve_parts.specs.Parts.{IsPartOf}

-- Of each curve some vertices are known, one after another from a place on. Each step before them falls more per money
-- than the high price, each one behind them less than the low one, and each of theirs as much as some price between.
pub record AreParts (low high : Price) (curves parts : List (List Point)) (froms : List ℕ) : Type 0 where
  pub order : low.p * high.q ≤ high.p * low.q
  pub rises : (f k : ℕ) → HasStep curves f k → 0 < rise curves f k
  pub count : length parts ≡ length curves
  pub froms_count : length froms ≡ length curves
  pub within : (f : ℕ) → f < length curves
      → slice_index froms f + length (curve_at parts f) ≤ length (curve_at curves f)
  pub same : (f k : ℕ) → f < length curves → k < length (curve_at parts f)
      → vertex_at parts f k ≡ vertex_at curves f (slice_index froms f + k)
  pub before : (f k : ℕ) → HasStep curves f k → k < slice_index froms f
      → high.p * rise curves f k < fall curves f k * high.q
  pub behind : (f k : ℕ) → HasStep curves f k → slice_index froms f + length (curve_at parts f) ≤ k + 1
      → fall curves f k * low.q < low.p * rise curves f k
  pub steeper : (f k : ℕ) → HasStep curves f k → slice_index froms f ≤ k
      → k + 1 < slice_index froms f + length (curve_at parts f)
      → low.p * rise curves f k ≤ fall curves f k * low.q
  pub flatter : (f k : ℕ) → HasStep curves f k → slice_index froms f ≤ k
      → k + 1 < slice_index froms f + length (curve_at parts f)
      → fall curves f k * high.q ≤ high.p * rise curves f k

-- picks of the parts, by their places in the curves
abbrev pub shifted : List ℕ → List ℕ → List ℕ
shifted [] picks = []
shifted (a ∷ froms) [] = []
shifted (a ∷ froms) (k ∷ picks) = (a + k) ∷ shifted froms picks

-- the next step of the parts is the next one of all, of the same fall and rise
pub record IsNextOfAll (curves parts : List (List Point)) (froms picks : List ℕ) (f : ℕ) : Type 0 where
  pub next : IsNext curves (shifted froms picks) f
  pub place : slice_index (shifted froms picks) f ≡ slice_index froms f + slice_index picks f
  pub fall_is : fall parts f (slice_index picks f) ≡ fall curves f (slice_index (shifted froms picks) f)
  pub rise_is : rise parts f (slice_index picks f) ≡ rise curves f (slice_index (shifted froms picks) f)

-- each part is the part of its family's curve between the prices
pub record ArePartsOf (low high : Price) (families parts : List (List Point)) : Type 0 where
  pub count : length families ≡ length parts
  pub each : (f : ℕ) → f < length parts → IsPartOf low high (curve_at families f) (curve_at parts f)

-- each family has a point, points of one family with the same stocks are equal, and their numbers are within their
-- limits
pub record AreFamilies (families : List (List Point)) : Type 0 where
  pub some : (f : ℕ) → f < length families → 0 < length (curve_at families f)
  pub tell : StocksTellAll families
  pub ranges : (f : ℕ) (v : Point) → Among v (curve_at families f) → InRange v
