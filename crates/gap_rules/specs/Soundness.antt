-- The promises of an accepted certificate about all allocations, at each depth of the model.
use Rattle.std.specs.Prelude.{◌≡◌, ℕ, List, map, None}
use Rattle.exact_model.specs.Fraction.{Fraction}
use Rattle.spares_input.specs.Cases.{CaseRows, IsCase}
use Rattle.spares_input.specs.Stocks.{StockList, IsFor}
use Rattle.fleet_model.specs.Rows.{line_units}
use Rattle.price_bounds.specs.Allocations.{Family, AreEnclosed}
use Rattle.price_bounds.specs.Soundness.{IsSoundCertificate}
use Rattle.family_points.specs.Vectors.{vector_of, limits, vectors}
use Rattle.family_points.specs.Points.{point_at_vector, ScoreEnds}
use Rattle.price_certificate.specs.declared.certificate.Certificate.{Certificate}
use Rattle.price_certificate.specs.Certificates.{IsWellFormed}
use Rattle.gap_rules.specs.Refusals.{reject_of}
use Rattle.gap_rules.specs.Laws.{claims_of}

-- The family of the line unit l from the held stocks on, with a score's value for each depth and each vector. Its costs
-- count the stocks above the held ones.
abbrev pub family_model : ScoreEnds → (ℕ → ℕ → List ℕ → Fraction) → CaseRows → StockList → ℕ → Family
family_model score value c held l = record {
  vectors = vectors (vector_of c l held.list) (limits c l);
  cost = λ v. (point_at_vector c l score (vector_of c l held.list) v).cost;
  lo = λ v. (point_at_vector c l score (vector_of c l held.list) v).lo;
  hi = λ v. (point_at_vector c l score (vector_of c l held.list) v).hi;
  backorders = value l;
}

-- the families of all line units of the case, from the held stocks on
abbrev pub models_of : ScoreEnds → (ℕ → ℕ → List ℕ → Fraction) → CaseRows → StockList → List Family
models_of score value c held = map (family_model score value c held) (line_units c)

-- If the score's intervals enclose its values, a certificate that breaks no rule is sound: its stocks fit the budget
-- and have at most its upper end, and no allocation within the budget has less than its bound.
abbrev pub AcceptedAreSound : Type 0
AcceptedAreSound = (score : ScoreEnds) (value : ℕ → ℕ → List ℕ → Fraction) (cert : Certificate)
    (held : StockList) → IsCase cert.case → IsWellFormed cert
    → IsFor cert.case held → AreEnclosed (models_of score value cert.case held) → reject_of score cert held ≡ None
    → IsSoundCertificate (models_of score value cert.case held) cert.budget (claims_of score cert held)
