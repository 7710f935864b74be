-- The laws of a plan's certificate.
use Rattle.std.specs.Prelude.{◌≡◌, ℕ, ◌+◌, ◌≤◌, length, None}
use Rattle.hull.specs.Scores.{EnclosesValue, LeavesRoom}
use Rattle.spares_input.specs.Cases.{CaseRows}
use Rattle.spares_input.specs.Stocks.{StockList}
use Rattle.case_plan.specs.declared.outcome.Outcome.{Outcome}
use Rattle.price_certificate.specs.declared.certificate.Objective.{Objective}
use Rattle.price_certificate.specs.declared.certificate.Certificate.{Certificate}
use Rattle.price_certificate.specs.Certificates.{IsWellFormed, cert_text, certificate_limit}
use Rattle.gap_rules.specs.Refusals.{reject_of}
use Rattle.held_certificate.specs.Held.{held_text}
use Rattle.price_certificate.specs.declared.certificate.Terms.{Terms}
use Rattle.gap_rules.specs.Scores.{ends_of, value_of}
use Rattle.certified_plan.specs.Inputs.{IsPlanOn, IsWithinWork}
use Rattle.certified_plan.specs.Certificates.{certificate_of}

-- the intervals of each objective enclose its values, and leave room to add up
abbrev pub ScoresEnclose : Type 0
ScoresEnclose = (o : Objective) → EnclosesValue (ends_of o) (value_of o)

-- the intervals of each objective leave room to be summed over the bases
abbrev pub ScoresLeaveRoom : Type 0
ScoresLeaveRoom = (o : Objective) → LeavesRoom (ends_of o)

-- the certificate of a plan is well formed
abbrev pub PlansAreWellFormed : Type 0
PlansAreWellFormed =
    (c : CaseRows) (held : StockList) (terms : Terms) (outcome : Outcome)
    → IsPlanOn c held terms outcome → IsWellFormed (certificate_of c held terms outcome)

-- the checker accepts the certificate of a plan, if the work is within the limit
abbrev pub PlansAreAccepted : Type 0
PlansAreAccepted =
    (c : CaseRows) (held : StockList) (terms : Terms) (outcome : Outcome)
    → IsPlanOn c held terms outcome → IsWithinWork c held.list
    → reject_of (ends_of terms.objective) (certificate_of c held terms outcome) held ≡ None

-- a certificate of this case, budget and objective that breaks no rule of the checker over these held stocks, whoever
-- made it
pub record IsAcceptedFor (c : CaseRows) (held : StockList) (terms : Terms) (cert : Certificate) : Type 0 where
  pub formed : IsWellFormed cert
  pub case_is : cert.case ≡ c
  pub budget_is : cert.budget ≡ terms.budget
  pub objective_is : cert.objective ≡ terms.objective
  pub breaks_none : reject_of (ends_of terms.objective) cert held ≡ None

-- no such certificate has a bound above this one
abbrev pub NoCertificateShowsMore : CaseRows → StockList → Terms → ℕ → Type 0
NoCertificateShowsMore c held terms most = (cert : Certificate) → IsAcceptedFor c held terms cert → cert.bound ≤ most

-- No certificate that the checker accepts has a bound above the plan's bound plus its rounding.
abbrev pub PlansComeNearest : Type 0
PlansComeNearest =
    (c : CaseRows) (held : StockList) (terms : Terms) (outcome : Outcome) → IsPlanOn c held terms outcome
    → NoCertificateShowsMore c held terms (outcome.report.bound + outcome.report.rounding)

-- the text of a plan's certificate is short enough to be read
abbrev pub TextsAreShort : Type 0
TextsAreShort =
    (c : CaseRows) (held : StockList) (terms : Terms) (outcome : Outcome)
    → IsPlanOn c held terms outcome → length (cert_text (certificate_of c held terms outcome)) ≤ certificate_limit

-- so is the text of a plan's certificate with held stocks
abbrev pub HeldTextsAreShort : Type 0
HeldTextsAreShort =
    (c : CaseRows) (held : StockList) (terms : Terms) (outcome : Outcome)
    → IsPlanOn c held terms outcome
    → length (held_text (record { certificate = certificate_of c held terms outcome; held = held }))
    ≤ certificate_limit
