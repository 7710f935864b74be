-- The promises of an acceptable certificate about all allocations, at each depth.
use Rattle.std.specs.Prelude.{ℕ, ◌≤◌, List, map}
use Rattle.exact_model.specs.Fraction.{Fraction}
use Rattle.hull.specs.declared.point.Point.{Point}
use Rattle.price_bounds.specs.Values.{IsAtLeast, IsAtMost}
use Rattle.price_bounds.specs.Certificates.{Claims, IsAcceptable}
use Rattle.price_bounds.specs.Allocations.{Family, points_of, AreEnclosed, IsFamilyAllocation, cost_at, total_at, IsBoundAtPrice}

-- the stocks of points, a vector for each
abbrev pub stocks_of : List Point → List (List ℕ)
stocks_of points = map (λ v. v.stocks) points

-- no allocation within the budget has fewer backorders than the bound
abbrev pub NoneHasFewerThan : ℕ → List Family → ℕ → Type 0
NoneHasFewerThan bound families budget = (n : ℕ) (allocation : List (List ℕ)) → 1024 ≤ n
    → IsFamilyAllocation families allocation
    → cost_at families allocation ≤ budget → IsAtLeast bound (total_at n families allocation)

-- no price has a bound above the limit
abbrev pub NoPriceGivesMoreThan : ℕ → List Family → ℕ → Type 0
NoPriceGivesMoreThan limit families budget = (n : ℕ) (price bound : Fraction) → 1024 ≤ n
    → IsBoundAtPrice families budget n price bound → IsAtMost limit bound

-- no acceptable certificate has a bound above the limit
abbrev pub NoCertificateHasMoreThan : ℕ → List Family → ℕ → Type 0
NoCertificateHasMoreThan limit families budget = (claims : Claims) → IsAcceptable (map points_of families) budget claims
    → claims.bound ≤ limit

-- The promises of an acceptable certificate.
pub record IsSoundCertificate (families : List Family) (budget : ℕ) (claims : Claims) : Type 0 where
  pub allocation : IsFamilyAllocation families (stocks_of claims.chosen)
  pub fits : cost_at families (stocks_of claims.chosen) ≤ budget
  pub upper : (n : ℕ) → 1024 ≤ n → IsAtMost claims.upper (total_at n families (stocks_of claims.chosen))
  pub fewer : NoneHasFewerThan claims.bound families budget

-- each acceptable certificate keeps its promises, if the families' intervals enclose their backorders
abbrev pub CertificatesAreSound : Type 0
CertificatesAreSound = (families : List Family) (budget : ℕ) (claims : Claims) → AreEnclosed families
    → IsAcceptable (map points_of families) budget claims → IsSoundCertificate families budget claims
