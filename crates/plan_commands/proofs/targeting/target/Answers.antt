use Rattle.order_inputs.specs.Cases.{case_within_work}
use Rattle.order_inputs.specs.Given.{bytes_of}
use Rattle.plan_commands.proofs.Swept.{priced}
use Rattle.plan_commands.proofs.targeting.target.Goals as goal

pub returns : goal.returns
returns c =
    rw c.printed.ensures
    (priced c.in_ok-given.given.case c.in_ok-given.ensures.given.accepted (case_within_work (bytes_of c.args.tables.now)) c.in_ok-given.ensures.answer c.args.backorders
    c.in_ok-report.field-0 c.in_ok-report.ensures.target c.in_ok-report.ensures.fits)
