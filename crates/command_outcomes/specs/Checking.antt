-- The answers of the calls that check. No promise of the crate rests on these words.
use Rattle.std.specs.Prelude.{Result, Ok}
use Rattle.price_certificate.specs.Certificates.{IsWellFormed}
use Rattle.answers.specs.Steps.{◌>>=◌}
use Rattle.plan_report.specs.declared.check.CheckReport.{CheckReport}
use Rattle.refusals.specs.Causes.{or_refuse}
use Rattle.refusals.specs.declared.failure.Failure.{Failure}
use Rattle.refusals.specs.declared.refusal.Refusal.TheVariants as refusal
use Rattle.spares_input.specs.Cases.{frame_rows}
use Rattle.spares_input.specs.Stocks.{AreStocksOf}
use Rattle.command_outcomes.specs.Checks.{check_of, judged_of}
use Rattle.command_outcomes.specs.Held.{held_in}
use Rattle.command_outcomes.specs.declared.checking.Claim.{Claim}

-- the certificate is well formed, and the held stocks are within the limits of its case
pub record IsClaim (x : Claim) : Type 0 where
  pub formed : IsWellFormed x.certificate
  pub held : AreStocksOf x.certificate.case (held_in x.certificate.case x.on_hand)

-- the report of a claim, or the first rule that it breaks
abbrev pub confirmed_of : Claim → Result CheckReport Failure
confirmed_of x = do
  accepted ← or_refuse (frame_rows x.certificate.case) refusal.Rejected (judged_of x)
  Ok (check_of x)
