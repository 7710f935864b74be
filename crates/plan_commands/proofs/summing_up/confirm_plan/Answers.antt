use Rattle.plan_commands.proofs.Told.{aims, is_accepted, is_short}
use Rattle.plan_commands.proofs.summing_up.confirm_plan.Goals as goal

pub confirm-requires-clause-objective : goal.confirm-requires-clause-objective
confirm-requires-clause-objective c =
    aims c.args.case c.args.held.now c.args.budget c.args.plan c.requires.plan c.in_ok-made.made.certificate c.in_ok-made.ensures.certificate

pub confirm-requires-clause-short : goal.confirm-requires-clause-short
confirm-requires-clause-short c =
    is_short c.args.case c.args.held.now c.args.budget c.args.plan c.requires.plan c.in_ok-made.made.certificate c.in_ok-made.ensures.certificate

pub confirm-requires-clause-accepted : goal.confirm-requires-clause-accepted
confirm-requires-clause-accepted c =
    is_accepted c.args.case c.args.held.now c.args.budget c.args.plan c.requires.plan c.in_ok-made.made.certificate c.in_ok-made.ensures.certificate
    c.requires.nothing c.requires.work
