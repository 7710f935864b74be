use Rattle.fixed_interval.proofs.Laws.{up_above}
use Rattle.fixed_interval.proofs.Iv.up_text.Goals as goal

pub returns-clause-above : goal.returns-clause-above
returns-clause-above g c u x = up_above g.row.F c.args.places c.args.self.now u x
