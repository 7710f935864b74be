use Rattle.fixed_interval.proofs.Laws.{down_below}
use Rattle.fixed_interval.proofs.Iv.down_text.Goals as goal

pub returns-clause-below : goal.returns-clause-below
returns-clause-below g c u x = down_below g.row.F c.args.places c.args.self.now u x
