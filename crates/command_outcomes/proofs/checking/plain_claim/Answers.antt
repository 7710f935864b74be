use Rattle.std.proofs.Common.{ap}
use Rattle.std.proofs.lemmas.Result.{err_from_is_err_and}
use Rattle.certified_plan.proofs.Public.{none_is_held}
use Rattle.price_certificate.specs.Certificates.{cert_of}
use Rattle.command_outcomes.specs.Checks.{with_nothing}
use Rattle.command_outcomes.proofs.Steps.{plain_unread}
use Rattle.command_outcomes.proofs.checking.plain_claim.Goals as goal

pub read-requires : goal.read-requires
read-requires c = c.requires

pub returns-in_err-certificate-clause-answer : goal.returns-in_err-certificate-clause-answer
returns-in_err-certificate-clause-answer c =
    let p = err_from_is_err_and c.from_residual.result c.from_residual.ensures.1 in
    rw (p.1, p.2) (plain_unread (cert_of c.args.bytes.now) _ c.in_err-certificate.ensures.answer)

pub returns-in_err-certificate-clause-claim : goal.returns-in_err-certificate-clause-claim
returns-in_err-certificate-clause-claim c = let p = err_from_is_err_and c.from_residual.result c.from_residual.ensures.1 in rw p.1 tt

pub returns-clause-answer : goal.returns-clause-answer
returns-clause-answer c = ap with_nothing c.in_ok-certificate.ensures.answer

pub returns-clause-claim : goal.returns-clause-claim
returns-clause-claim c = record { formed = c.in_ok-certificate.ensures.found.0; held = none_is_held c.in_ok-certificate.certificate.case }
