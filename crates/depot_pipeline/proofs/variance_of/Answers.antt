use Rattle.depot_pipeline.proofs.Laws.{variance_part_is}
use Rattle.depot_pipeline.proofs.variance_of.Goals as goal

pub returns-clause-ends : goal.returns-clause-ends
returns-clause-ends g c =
    variance_part_is g.row.F c.args.feed.now c.exact.result c.less-rest.result c.part_of.result c.part_of-once.result c.part_of-2.result c.part_of-twice.result c.add.result
    c.exact.ensures.ends c.less-rest.ensures.ends c.part_of.ensures.ends c.part_of-once.ensures.ends c.part_of-2.ensures.ends c.part_of-twice.ensures.ends c.add.ensures.ends
