-- The filling: the best change of one family at a time, until no change is left.
use Rattle.std.specs.Prelude.{◌≡◌, ℕ, ◌-◌, ◌<◌, ◌≤◌, ◌⊎◌, List, length, set, slice_index}
use Rattle.hull.specs.declared.point.Point.{Point}
use Rattle.price_bounds.specs.Sums.{cost_of}
use Rattle.step_walk.specs.Prefix.{curve_at, vertex_at, picked}

-- moving family f to its vertex k fits the budget and lowers its upper end
pub record HasChange (curves : List (List Point)) (budget : ℕ) (picks : List ℕ) (f k : ℕ) : Type 0 where
  pub family : f < length curves
  pub vertex : k < length (curve_at curves f)
  pub fits : cost_of (picked curves (set picks f k)) ≤ budget
  pub lower : (vertex_at curves f k).hi < (vertex_at curves f (slice_index picks f)).hi

-- the fall of the upper end by this change
abbrev pub gain : List (List Point) → List ℕ → ℕ → ℕ → ℕ
gain curves picks f k = (vertex_at curves f (slice_index picks f)).hi - (vertex_at curves f k).hi

-- no change lowers an upper end by more, and of equal ones this is the first by family and then by vertex
pub record IsBestChange (curves : List (List Point)) (budget : ℕ) (picks : List ℕ) (f k : ℕ) : Type 0 where
  pub change : HasChange curves budget picks f k
  pub best : (g j : ℕ) → HasChange curves budget picks g j → (gain curves picks g j < gain curves picks f k)
      ⊎ ((gain curves picks g j ≡ gain curves picks f k) × ((f < g) ⊎ ((f ≡ g) × (k ≤ j))))

-- no change is left
abbrev pub IsFull : List (List Point) → ℕ → List ℕ → Type 0
IsFull curves budget picks = (f k : ℕ) → HasChange curves budget picks f k → ⊥

-- best changes lead from the first picks to the last, which have no change
pub data Fills (curves : List (List Point)) (budget : ℕ) : List ℕ → List ℕ → Type 0 where
  full : {picks : List ℕ} → IsFull curves budget picks → Fills curves budget picks picks
  change : {picks end : List ℕ} (f k : ℕ) → IsBestChange curves budget picks f k
      → Fills curves budget (set picks f k) end → Fills curves budget picks end
