-- Checks: the claims of a certificate's bytes, and the report of its check.
use Rattle.std.specs.Prelude.{ℕ, List, Some, None, Result, Ok, Err, if◌then◌else◌}
use Rattle.std.specs.Option.{option_map}
use Rattle.gap_rules.specs.Scores.{ends_of}
use Rattle.gap_rules.specs.Refusals.{case_cost_above, judged}
use Rattle.check_answers.specs.declared.refusal.Accepted.{Accepted}
use Rattle.check_answers.specs.declared.refusal.Reject.{Reject}
use Rattle.held_certificate.specs.Held.{held_of, is_held_form}
use Rattle.held_certificate.specs.declared.held.HeldCertificate.{HeldCertificate}
use Rattle.plan_report.specs.declared.check.CheckReport.{CheckReport}
use Rattle.price_certificate.specs.Certificates.{cert_of}
use Rattle.price_certificate.specs.declared.certificate.Certificate.{Certificate}
use Rattle.price_certificate.specs.declared.fault.CertFault.{CertFault}
use Rattle.refusals.specs.Causes.{or_refuse}
use Rattle.refusals.specs.Lines.{no_names}
use Rattle.refusals.specs.declared.failure.Failure.{Failure}
use Rattle.refusals.specs.declared.refusal.Refusal.TheVariants as refusal
use Rattle.spares_input.specs.Cases.{frame_rows}
use Rattle.spares_input.specs.Stocks.{cost_of_stocks}
use Rattle.answers.specs.Steps.{◌>>=◌}
use Rattle.command_outcomes.specs.Held.{held_in}
use Rattle.command_outcomes.specs.declared.checking.Claim.{Claim}

-- ---- the claims of bytes

-- the contents of a held certificate, with its stocks on hand
abbrev pub with_held : Result HeldCertificate CertFault → Result Claim CertFault
with_held (Ok h) = Ok (record { certificate = h.certificate; on_hand = Some h.held })
with_held (Err fault) = Err fault

-- the contents of a certificate, with no stocks on hand
abbrev pub with_nothing : Result Certificate CertFault → Result Claim CertFault
with_nothing (Ok cert) = Ok (record { certificate = cert; on_hand = None })
with_nothing (Err fault) = Err fault

-- the contents of a certificate of one of the two forms
abbrev pub form_of : List ℕ → Result Claim CertFault
form_of bytes = if is_held_form bytes then with_held (held_of bytes) else with_nothing (cert_of bytes)

-- the first rule that a certificate breaks, or else its acceptance
abbrev pub judged_of : Claim → Result Accepted Reject
judged_of x = judged (ends_of x.certificate.objective) x.certificate (held_in x.certificate.case x.on_hand)

-- the contents of a certificate's bytes, or the first rule that they break
unfoldable pub claimed_of : List ℕ → Result Claim Failure
claimed_of bytes = do
  claimed ← or_refuse no_names refusal.Cert (form_of bytes)
  accepted ← or_refuse (frame_rows claimed.certificate.case) refusal.Rejected (judged_of claimed)
  Ok claimed

-- ---- the report

-- the report of a check: the claimed format, budget, upper end and bound, and the cost
abbrev pub check_of : Claim → CheckReport
check_of x = record {
  format = x.certificate.format;
  budget = x.certificate.budget;
  cost = case_cost_above x.certificate.case (held_in x.certificate.case x.on_hand) x.certificate.stocks;
  on_hand = option_map (cost_of_stocks x.certificate.case) x.on_hand;
  upper = x.certificate.upper;
  bound = x.certificate.bound;
}
