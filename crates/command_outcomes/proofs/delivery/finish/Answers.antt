use Rattle.command_outcomes.proofs.HandedOut.{is_handed, still_delivers}
use Rattle.command_outcomes.proofs.delivery.finish.Goals as goal

pub returns-clause-delivers : goal.returns-clause-delivers
returns-clause-delivers g c = rw c.and.ensures (still_delivers c.args.outcome _ _ c.deliver.result c.args.outcome.done c.deliver.ensures.delivers)

pub returns-clause-report : goal.returns-clause-report
returns-clause-report g c = rw c.and.ensures (is_handed c.deliver.result c.args.outcome.done)
