use Rattle.depot_pipeline.proofs.Laws.{mean_part_is}
use Rattle.depot_pipeline.proofs.mean_of.Goals as goal

pub returns-clause-ends : goal.returns-clause-ends
returns-clause-ends g c = mean_part_is g.row.F c.args.feed.now c.part_of.result c.part_of.ensures.ends
