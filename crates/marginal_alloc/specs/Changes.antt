-- The best change of one curve, and of the first families. No promise of the crate rests on these words.
use Rattle.hull.specs.Curves.{point_at}
use Rattle.std.specs.Prelude.{◌≡◌, ℕ, ◌<◌, ◌≤◌, ◌⊎◌, List, Option, Some, None, length}
use Rattle.hull.specs.declared.point.Point.{Point}
use Rattle.marginal_alloc.specs.declared.change.Change.{Change}
use Rattle.marginal_alloc.specs.Filling.{HasChange, gain}

-- the upper end at a place of a curve
abbrev pub hi_at : List Point → ℕ → ℕ
hi_at curve k = (point_at curve k).hi

-- vertex k costs no more than the room, and its upper end is below the upper end at the pick
pub record IsLower (curve : List Point) (pick room k : ℕ) : Type 0 where
  pub vertex : k < length curve
  pub fits : (point_at curve k).cost ≤ room
  pub lower : hi_at curve k < hi_at curve pick

-- v is the first lowest vertex of those among the first n, or the pick if there is none
pub record IsLowest (curve : List Point) (pick room n v : ℕ) : Type 0 where
  pub vertex : v < length curve
  pub own : (v ≡ pick) ⊎ (IsLower curve pick room v × (v < n))
  pub least : (k : ℕ) → k < n → IsLower curve pick room k → (hi_at curve v < hi_at curve k)
      ⊎ ((hi_at curve v ≡ hi_at curve k) × (v ≤ k))

-- of the changes of the first n families, c is the best
pub record IsBestAmong (curves : List (List Point)) (budget : ℕ) (picks : List ℕ) (n : ℕ) (c : Change) : Type 0 where
  pub change : HasChange curves budget picks c.family c.vertex
  pub place : c.family < n
  pub gain_is : c.gain ≡ gain curves picks c.family c.vertex
  pub best : (g j : ℕ) → g < n → HasChange curves budget picks g j → (gain curves picks g j < c.gain)
      ⊎ ((gain curves picks g j ≡ c.gain) × ((c.family < g) ⊎ ((c.family ≡ g) × (c.vertex ≤ j))))

-- the best change of the first n families, or none if they have no change
abbrev pub IsBestBefore : List (List Point) → ℕ → List ℕ → ℕ → Option Change → Type 0
IsBestBefore curves budget picks n None = (g j : ℕ) → g < n → HasChange curves budget picks g j → ⊥
IsBestBefore curves budget picks n (Some c) = IsBestAmong curves budget picks n c
