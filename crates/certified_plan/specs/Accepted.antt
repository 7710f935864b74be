-- The statements of an accepted certificate about its case.
use Rattle.std.specs.Prelude.{◌≡◌, None}
use Rattle.hull.specs.Scores.{EnclosesValue}
use Rattle.spares_input.specs.Stocks.{StockList, IsFor, nothing_held}
use Rattle.fleet_model.specs.Aims.{Value}
use Rattle.family_points.specs.Points.{ScoreEnds, plain_ends}
use Rattle.fleet_plan.specs.Plans.{CaseClaims, AreTrueClaims, ArePlainClaims}
use Rattle.price_certificate.specs.declared.certificate.Certificate.{Certificate}
use Rattle.price_certificate.specs.Certificates.{IsWellFormed}
use Rattle.gap_rules.specs.Refusals.{reject_of}

-- the claims of a certificate
abbrev pub case_claims_of : Certificate → CaseClaims
case_claims_of cert = record {
  stocks = cert.stocks.list;
  price = cert.price;
  floors = cert.floors;
  upper = cert.upper;
  bound = cert.bound;
}

-- for every score whose intervals enclose its value, and for held stocks
abbrev pub AcceptedAreTrue : Type 0
AcceptedAreTrue =
    (ends : ScoreEnds) (value : Value) (cert : Certificate) (held : StockList)
    → EnclosesValue ends value → IsWellFormed cert → IsFor cert.case held → reject_of ends cert held ≡ None
    → AreTrueClaims value cert.case held.list cert.budget (case_claims_of cert)

-- for weighted backorders, if nothing is held
abbrev pub PlainAcceptedAreTrue : Type 0
PlainAcceptedAreTrue =
    (cert : Certificate) → IsWellFormed cert → reject_of plain_ends cert (nothing_held cert.case) ≡ None
    → ArePlainClaims cert.case cert.budget (case_claims_of cert)
