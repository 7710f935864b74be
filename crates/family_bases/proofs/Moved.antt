-- The points of a base, where its family, the depot's stocks or its number are known by two names.
use Rattle.std.proofs.Common.{◌≡◌, ℕ, List, subst}
use Rattle.hull.specs.declared.point.Point.{Point}
use Rattle.family_points.specs.Inputs.{FamilyBox}
use Rattle.family_points.specs.Points.{ScoreEnds}
use Rattle.family_points.specs.Separation.{base_points}

-- what holds of the points by one name holds by the other
pub moved : (Is : List Point → Type 0) (ends : ScoreEnds) (y x : FamilyBox) (e d : List ℕ) (k j : ℕ) → y ≡ x → e ≡ d → k ≡ j
    → Is (base_points ends y e k) → Is (base_points ends x d j)
moved Is ends y x e d k j f g h p =
    subst (λ i. Is (base_points ends x d i)) h
    (subst (λ (v : List ℕ). Is (base_points ends x v k)) g
    (subst (λ (z : FamilyBox). Is (base_points ends z e k)) f p))
