-- The pipelines that have a table.
use Rattle.std.specs.Prelude.{ℕ, ◌≡◌, ◌*◌, ◌<◌, ◌≤◌, ◌⊎◌}
use Rattle.fixed_interval.specs.Ends.{Ends, IsWithinLimit}

-- Either all ends are 0, for a pipeline that is always empty, or the mean is above 0, and no upper end is more than
-- 2048 times the lower end of the mean.
pub record CanTable (f : ℕ) (mean variance : Ends) : Type 0 where
  pub mean_top : IsWithinLimit f mean
  pub variance_top : IsWithinLimit f variance
  pub ratio : ((mean.hi ≡ 0) × (variance.hi ≡ 0))
      ⊎ ((0 < mean.lo) × ((mean.hi ≤ 2048 * mean.lo) × (variance.hi ≤ 2048 * mean.lo)))
