use Rattle.plan_commands.proofs.Demonstrated.{demonstrated}
use Rattle.plan_commands.proofs.demonstrating.demo.Goals as goal

pub returns : goal.returns
returns c = rw c.printed.ensures (demonstrated c.args.number c.args.lines c.requires.2 c.in_ok-summary.summary c.in_ok-summary.ensures.summary c.in_ok-summary.ensures.fits)
