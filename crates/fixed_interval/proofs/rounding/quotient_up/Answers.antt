use Rattle.fixed_interval.proofs.Laws.{ceil_after}
use Rattle.fixed_interval.proofs.rounding.quotient_up.Goals as goal

pub returns-then-den : goal.returns-then-den
returns-then-den c = rw c.div_ceil.ensures (ceil_after c.args.num c.args.den c.args.start c.requires.divisor c.requires.start)

pub returns-else-left : goal.returns-else-left
returns-else-left c = rw c.div_ceil-else-left.ensures (ceil_after c.args.num c.args.den c.args.start c.requires.divisor c.requires.start)
