-- Steps as the curves tell them.
use Rattle.hull.specs.Curves.{point_at}
use Rattle.std.proofs.Common.{◌≡◌, ℕ, ◌<◌, List, [], length, get_or, ap, ◌∙◌}
use Rattle.std.proofs.lemmas.List.{get_or_default}
use Rattle.hull.specs.declared.point.Point.{Point}
use Rattle.step_walk.specs.Prefix.{curve_at, vertex_at}

module _ (curves : List (List Point)) (f k p q : ℕ) (r : List Point) (is : r ≡ get_or curves f r) (b : f < length curves) where
  -- the curve that is read is that of family f
  pub curve_is : r ≡ curve_at curves f
  curve_is = is ∙ get_or_default curves f r [] b

-- a vertex that is read
pub vertex_is : (curves : List (List Point)) (f k : ℕ) (r : List Point) (v : Point) → r ≡ get_or curves f r → f < length curves → v ≡ point_at r k → v ≡ vertex_at curves f k
vertex_is curves f k r v is b at = at ∙ ap (λ c. point_at c k) (is ∙ get_or_default curves f r [] b)
