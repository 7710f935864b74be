use Rattle.std.proofs.Common.{lit<}
use Rattle.case_figures.proofs.Limits.{limit_room}
use Rattle.case_figures.proofs.compact.CompactItem.of.Goals as goal

pub of-requires : goal.of-requires
of-requires g c = (lit< tt, limit_room g.row.F c.args.item.now.mean c.requires.most.mean_most c.requires.scale.1)

pub of-requires-2 : goal.of-requires-2
of-requires-2 g c = (lit< tt, limit_room g.row.F c.args.item.now.variance c.requires.most.variance_most c.requires.scale.1)

pub of-requires-3 : goal.of-requires-3
of-requires-3 g c = (lit< tt, limit_room g.row.F c.args.item.now.backorders c.requires.most.backorders_most c.requires.scale.1)

pub of-requires-4 : goal.of-requires-4
of-requires-4 g c = (lit< tt, limit_room g.row.F c.args.item.now.spread c.requires.most.spread_most c.requires.scale.1)
