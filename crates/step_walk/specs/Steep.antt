-- Steps that fall by more than a price per unit of money.
use Rattle.std.specs.Prelude.{◌≡◌, ℕ, ◌+◌, ◌-◌, ◌*◌, ◌<◌, ◌≤◌, List, length, slice_index}
use Rattle.hull.specs.declared.point.Point.{Point}
use Rattle.hull.specs.Curves.{IsShape, point_at}
use Rattle.step_walk.specs.Prefix.{curve_at}

-- the fall of the lower end from the vertex at k of a curve to the next
abbrev pub fall_at : List Point → ℕ → ℕ
fall_at c k = (point_at c k).lo - (point_at c (k + 1)).lo

-- the rise of the cost from the vertex at k of a curve to the next
abbrev pub rise_at : List Point → ℕ → ℕ
rise_at c k = (point_at c (k + 1)).cost - (point_at c k).cost

-- the steps of a curve before the place k fall by more than p per unit of money, and no others do
pub record IsAfterSteep (p : ℕ) (curve : List Point) (k : ℕ) : Type 0 where
  pub shape : IsShape curve
  pub below : k < length curve
  pub steep : (i : ℕ) → i < k → p * rise_at curve i < fall_at curve i
  pub flat : (i : ℕ) → k ≤ i → i + 1 < length curve → fall_at curve i ≤ p * rise_at curve i

-- the same for each of the curves
pub record AreAfterSteep (p : ℕ) (curves : List (List Point)) (picks : List ℕ) : Type 0 where
  pub count : length picks ≡ length curves
  pub each : (f : ℕ) → f < length curves → IsAfterSteep p (curve_at curves f) (slice_index picks f)
