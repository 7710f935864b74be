use Rattle.std.proofs.lemmas.Result.{err_from_is_err_and}
use Rattle.std.proofs.Common.{refl}
use Rattle.command_outcomes.proofs.Confirmed.{confirmed_by, rejected_by, unclaimed}
use Rattle.command_outcomes.proofs.checking.check.Goals as goal

pub returns-in_err-claim : goal.returns-in_err-claim
returns-in_err-claim c =
    let p = err_from_is_err_and c.from_residual.result c.from_residual.ensures.1 in
    rw (p.1, p.2) (unclaimed c.args.bytes.now _ c.in_err-claim.ensures.answer)

pub returns-in_err-report : goal.returns-in_err-report
returns-in_err-report c =
    let p = err_from_is_err_and c.from_residual-in_err-report.result c.from_residual-in_err-report.ensures.1 in
    rw (p.1, p.2)
    (rejected_by c.in_ok-claim.claim c.in_ok-claim.ensures.claim c.args.bytes.now c.in_ok-claim.ensures.answer _ refl _ c.in_err-report.ensures)

pub returns : goal.returns
returns c =
    rw c.printed.ensures
    (confirmed_by c.in_ok-claim.claim c.in_ok-claim.ensures.claim c.args.bytes.now c.in_ok-claim.ensures.answer _ refl c.in_ok-report.field-0 c.in_ok-report.ensures)
