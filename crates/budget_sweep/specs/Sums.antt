-- The sums over the vertices at picks. No promise of the crate rests on these words.
use Rattle.std.specs.Prelude.{◌≡◌, ℕ, List}
use Rattle.hull.specs.declared.point.Point.{Point}
use Rattle.price_bounds.specs.Sums.{cost_of, lo_of, hi_of}
use Rattle.step_walk.specs.Prefix.{picked}
use Rattle.budget_sweep.specs.declared.sums.Sums.{Sums}

-- the sums are the sums of cost, lower and upper ends at the picks
pub record AreSums (curves : List (List Point)) (picks : List ℕ) (sums : Sums) : Type 0 where
  pub cost : sums.cost ≡ cost_of (picked curves picks)
  pub lo : sums.lo ≡ lo_of (picked curves picks)
  pub hi : sums.hi ≡ hi_of (picked curves picks)
