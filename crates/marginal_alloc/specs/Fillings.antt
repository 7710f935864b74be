-- The laws of a filling: what it keeps, and when it ends.
use Rattle.std.specs.Prelude.{◌≡◌, ℕ, ◌≤◌, List, length, slice_index}
use Rattle.hull.specs.declared.point.Point.{Point}
use Rattle.price_bounds.specs.Sums.{cost_of}
use Rattle.step_walk.specs.Prefix.{vertex_at, AreVertices, picked}
use Rattle.marginal_alloc.specs.Filling.{IsFull, Fills}

-- It ends when no change is left.
abbrev pub FillingIsFull : Type 0
FillingIsFull = (curves : List (List Point)) (budget : ℕ) (picks end : List ℕ) → Fills curves budget picks end
    → IsFull curves budget end

-- The cost stays within the budget.
abbrev pub FillingFits : Type 0
FillingFits = (curves : List (List Point)) (budget : ℕ) (picks end : List ℕ) → Fills curves budget picks end
    → cost_of (picked curves picks) ≤ budget → cost_of (picked curves end) ≤ budget

-- The picks remain one vertex of each curve.
abbrev pub FillingPicksVertices : Type 0
FillingPicksVertices = (curves : List (List Point)) (budget : ℕ) (picks end : List ℕ) → Fills curves budget picks end
    → AreVertices curves picks → AreVertices curves end

-- No family's upper end rises.
abbrev pub FillingNeverRaises : Type 0
FillingNeverRaises = (curves : List (List Point)) (budget : ℕ) (picks end : List ℕ) → Fills curves budget picks end
    → length picks ≡ length curves
    → (f : ℕ) → (vertex_at curves f (slice_index end f)).hi ≤ (vertex_at curves f (slice_index picks f)).hi

-- Picks have only one filling under a budget.
abbrev pub FillingsAreOne : Type 0
FillingsAreOne = (curves : List (List Point)) (budget : ℕ) (picks one other : List ℕ) → Fills curves budget picks one
    → Fills curves budget picks other → one ≡ other
