use Rattle.fixed_interval.proofs.Laws.{ratio_below}
use Rattle.fixed_interval.proofs.digits.ratio_down.Goals as goal

pub returns-clause-below : goal.returns-clause-below
returns-clause-below c = ratio_below c.args.num c.args.den c.args.places
