-- What an acceptable certificate says of the values of points.
use Rattle.std.proofs.Common.{ℕ, ◌≤◌, List}
use Rattle.exact_model.specs.Fraction.{Fraction}
use Rattle.hull.specs.declared.point.Point.{Point}
use Rattle.price_bounds.specs.Sums.{cost_of, lo_of, hi_of, Picks}
use Rattle.price_bounds.specs.Values.{sum_of, AllContain, IsAtLeast, IsAtMost}
use Rattle.price_bounds.specs.Certificates.{Claims, IsAcceptable}
use Rattle.price_bounds.proofs.Units.{sum_contains, at_least, at_most}
use Rattle.price_bounds.proofs.Duality.{fewer_step}
use Rattle.price_bounds.proofs.Floors.{claimed}

-- no values within the budget come to less than the bound, and those of the chosen to no more than the upper end
pub record CertificateKept (families : List (List Point)) (budget : ℕ) (claims : Claims) : Type 0 where
  pub fewer : (points : List Point) (values : List Fraction) → Picks families points → cost_of points ≤ budget → AllContain points values → IsAtLeast claims.bound (sum_of values)
  pub upper : (values : List Fraction) → AllContain claims.chosen values → IsAtMost claims.upper (sum_of values)

-- each acceptable certificate bounds the values of all choices within the budget, and of its own
pub certificate_kept : (families : List (List Point)) (budget : ℕ) (claims : Claims) → IsAcceptable families budget claims → CertificateKept families budget claims
certificate_kept families budget claims a = record {
  fewer = λ points values w fits c. at_least claims.bound (lo_of points) (hi_of points) (sum_of values)
      (fewer_step claims.price.p claims.price.q claims.bound (lo_of points) (cost_of points) budget a.money (claimed families budget claims a points w) fits)
      (sum_contains points values c);
  upper = λ values c. at_most claims.upper (lo_of claims.chosen) (hi_of claims.chosen) (sum_of values) a.upper (sum_contains claims.chosen values c);
}
