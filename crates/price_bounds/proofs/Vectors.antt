-- Choices of points are allocations.
use Rattle.std.proofs.Common.{◌≡◌, ℕ, ◌+◌, ◌*◌, ◌^◌, ◌<◌, ◌≤◌, inl, inr, List, [], ◌∷◌, map, refl, sym, ap, ◌∙◌, subst, arith}
use Rattle.std.proofs.Math.Nat.{le_of_mul-le-mul_right}
use Rattle.exact_model.specs.Fraction.{Fraction, ◌+ℚ◌, Contains}
use Rattle.hull.specs.declared.point.Point.{Point}
use Rattle.hull.specs.Curves.{Among}
use Rattle.price_bounds.specs.Sums.{cost_of, Picks}
use Rattle.price_bounds.specs.Values.{sum_of, AllContain, IsAtLeast, IsAtMost}
use Rattle.price_bounds.specs.Certificates.{Claims, IsAcceptable}
use Rattle.price_bounds.specs.Allocations.{Family, point_of, points_of, AreEnclosed, IsFamilyAllocation, cost_at, total_at}
use Rattle.price_bounds.specs.Soundness.{stocks_of, NoneHasFewerThan, IsSoundCertificate}
use Rattle.price_bounds.proofs.Kept.{CertificateKept, certificate_kept}

-- a point of a family is that of its own stocks, and these are one of the family's vectors
pub own : (family : Family) (vectors : List (List ℕ)) (v : Point) → Among v (map (point_of family) vectors) → (v ≡ point_of family v.stocks) × Among v.stocks vectors
own family [] v a = absurd a
own family (s ∷ vectors) v (inl e) = (e ∙ ap (λ z. point_of family z) (sym (ap (λ z. z.stocks) e)), inl (ap (λ z. z.stocks) e))
own family (s ∷ vectors) v (inr a) = (let r = own family vectors v a in (r.0, inr r.1))

there : (family : Family) (vectors : List (List ℕ)) (s : List ℕ) → Among s vectors → Among (point_of family s) (map (point_of family) vectors)
there family [] s a = absurd a
there family (t ∷ vectors) s (inl e) = inl (ap (λ z. point_of family z) e)
there family (t ∷ vectors) s (inr a) = inr (there family vectors s a)

-- the points of an allocation, and what the model says of them
abbrev pub points_at : List Family → List (List ℕ) → List Point
points_at [] allocation = []
points_at (family ∷ families) [] = []
points_at (family ∷ families) (stocks ∷ rest) = point_of family stocks ∷ points_at families rest

-- the backorders of each family's stocks at a depth
abbrev pub values_at : ℕ → List Family → List (List ℕ) → List Fraction
values_at n [] allocation = []
values_at n (family ∷ families) [] = []
values_at n (family ∷ families) (stocks ∷ rest) = family.backorders n stocks ∷ values_at n families rest

-- the backorders of the families' stocks come to those of the allocation
pub total_is : (n : ℕ) (families : List Family) (allocation : List (List ℕ)) → sum_of (values_at n families allocation) ≡ total_at n families allocation
unfolding sum_of total_at
total_is n [] allocation = refl
total_is n (family ∷ families) [] = refl
total_is n (family ∷ families) (stocks ∷ rest) = ap (λ z. family.backorders n stocks +ℚ z) (total_is n families rest)

-- the points of an allocation are one of each family
pub allocation_picks : (families : List Family) (allocation : List (List ℕ)) → IsFamilyAllocation families allocation → Picks (map points_of families) (points_at families allocation)
allocation_picks [] [] a = tt
allocation_picks [] (s ∷ rest) a = absurd a
allocation_picks (family ∷ families) [] a = absurd a
allocation_picks (family ∷ families) (s ∷ rest) a = (there family family.vectors s a.0, allocation_picks families rest a.1)

-- the points of an allocation cost what it does
pub allocation_cost : (families : List Family) (allocation : List (List ℕ)) → cost_of (points_at families allocation) ≡ cost_at families allocation
allocation_cost [] allocation = refl
allocation_cost (family ∷ families) [] = refl
allocation_cost (family ∷ families) (s ∷ rest) = ap (λ z. family.cost s + z) (allocation_cost families rest)

-- the intervals of an allocation's points contain its backorders at each depth from 1024 on
pub allocation_values : (n : ℕ) (families : List Family) (allocation : List (List ℕ)) → 1024 ≤ n → AreEnclosed families → IsFamilyAllocation families allocation → AllContain (points_at families allocation) (values_at n families allocation)
allocation_values n [] [] l e a = tt
allocation_values n [] (s ∷ rest) l e a = absurd a
allocation_values n (family ∷ families) [] l e a = absurd a
allocation_values n (family ∷ families) (s ∷ rest) l e a = (e.0 s a.0 n l, allocation_values n families rest l e.1 a.1)

-- and the other way round
pub choice_allocation : (families : List Family) (points : List Point) → Picks (map points_of families) points → IsFamilyAllocation families (stocks_of points)
choice_allocation [] [] p = tt
choice_allocation [] (v ∷ vs) p = absurd p
choice_allocation (family ∷ families) [] p = absurd p
choice_allocation (family ∷ families) (v ∷ vs) p = ((own family family.vectors v p.0).1, choice_allocation families vs p.1)

pub choice_points : (families : List Family) (points : List Point) → Picks (map points_of families) points → points_at families (stocks_of points) ≡ points
choice_points [] [] p = refl
choice_points [] (v ∷ vs) p = absurd p
choice_points (family ∷ families) [] p = absurd p
choice_points (family ∷ families) (v ∷ vs) p =
    ap (λ z. z ∷ points_at families (stocks_of vs)) (sym (own family family.vectors v p.0).0) ∙ ap (λ z. v ∷ z) (choice_points families vs p.1)

-- points that are one of each family cost what the allocation of their stocks does
pub choice_cost : (families : List Family) (points : List Point) → Picks (map points_of families) points → cost_of points ≡ cost_at families (stocks_of points)
choice_cost families points p = ap cost_of (sym (choice_points families points p)) ∙ allocation_cost families (stocks_of points)

-- the intervals of points, one of each family, contain the backorders of their stocks at each depth
pub choice_values : (n : ℕ) (families : List Family) (points : List Point) → 1024 ≤ n → AreEnclosed families → Picks (map points_of families) points → AllContain points (values_at n families (stocks_of points))
choice_values n families points l e p = subst (λ z. AllContain z (values_at n families (stocks_of points))) (choice_points families points p)
    (allocation_values n families (stocks_of points) l e (choice_allocation families points p))

-- what is enclosed lies between its ends
ends_step : (E l h n d : ℕ) → 0 < d → l * d ≤ n * E → n * E ≤ h * d → l ≤ h
ends_step E l h n d p a b = (let i : l * d ≤ h * d = omega (arith, a, b) in le_of_mul-le-mul_right i p)

-- ends that contain a value are in order
pub ends_of : (lo hi : ℕ) (q : Fraction) → Contains 48 lo hi q → lo ≤ hi
ends_of lo hi q c = ends_step (2 ^ 48) lo hi q.num q.den q.positive c.low c.high

-- a bound of the values of all points within the budget is one of the backorders of all allocations within it
pub none_fewer : (families : List Family) (budget bound : ℕ) → AreEnclosed families
    → ((points : List Point) (values : List Fraction) → Picks (map points_of families) points → cost_of points ≤ budget → AllContain points values → IsAtLeast bound (sum_of values))
    → NoneHasFewerThan bound families budget
none_fewer families budget bound e h n allocation l a fits = subst (λ z. IsAtLeast bound z) (total_is n families allocation)
    (h (points_at families allocation) (values_at n families allocation) (allocation_picks families allocation a) (let c = allocation_cost families allocation in omega (arith, c, fits)) (allocation_values n families allocation l e a))

-- an acceptable certificate keeps its promises of all allocations, where the intervals enclose
pub certificate_sound : (families : List Family) (budget : ℕ) (claims : Claims) → AreEnclosed families
    → IsAcceptable (map points_of families) budget claims → IsSoundCertificate families budget claims
certificate_sound families budget claims e a = sound (certificate_kept (map points_of families) budget claims a)
  where
    sound : CertificateKept (map points_of families) budget claims → IsSoundCertificate families budget claims
    sound k = record {
      allocation = choice_allocation families claims.chosen a.within;
      fits = subst (λ z. z ≤ budget) (choice_cost families claims.chosen a.within) a.fits;
      upper = λ n l. subst (λ z. IsAtMost claims.upper z) (total_is n families (stocks_of claims.chosen)) (k.upper (values_at n families (stocks_of claims.chosen)) (choice_values n families claims.chosen l e a.within));
      fewer = none_fewer families budget claims.bound e k.fewer;
    }
