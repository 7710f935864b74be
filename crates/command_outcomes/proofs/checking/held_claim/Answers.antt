use Rattle.std.proofs.Common.{ap}
use Rattle.std.proofs.lemmas.Result.{err_from_is_err_and}
use Rattle.held_certificate.specs.Held.{held_of}
use Rattle.command_outcomes.specs.Checks.{with_held}
use Rattle.command_outcomes.proofs.Steps.{held_unread}
use Rattle.command_outcomes.proofs.checking.held_claim.Goals as goal

pub read-requires : goal.read-requires
read-requires c = c.requires

pub returns-in_err-read-clause-answer : goal.returns-in_err-read-clause-answer
returns-in_err-read-clause-answer c =
    let p = err_from_is_err_and c.from_residual.result c.from_residual.ensures.1 in
    rw (p.1, p.2) (held_unread (held_of c.args.bytes.now) _ c.in_err-read.ensures.answer)

pub returns-in_err-read-clause-claim : goal.returns-in_err-read-clause-claim
returns-in_err-read-clause-claim c = let p = err_from_is_err_and c.from_residual.result c.from_residual.ensures.1 in rw p.1 tt

pub returns-clause-answer : goal.returns-clause-answer
returns-clause-answer c = ap with_held c.in_ok-read.ensures.answer

pub returns-clause-claim : goal.returns-clause-claim
returns-clause-claim c = let well = c.in_ok-read.ensures.found.0 in record { formed = well.certificate; held = well.held }
