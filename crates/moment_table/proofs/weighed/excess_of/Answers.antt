use Rattle.std.proofs.Common.{arith, lit<, pow_pos}
use Rattle.moment_table.proofs.Enclosure.{excess_is, excess_most}
use Rattle.moment_table.proofs.weighed.excess_of.Goals as goal

pub quotient-requires : goal.quotient-requires
quotient-requires g c = (lit< tt, (omega (arith, pow_pos g.row.F, c.requires.variance_top), c.requires.mean_least))

pub returns-clause-ends : goal.returns-clause-ends
returns-clause-ends g c =
    excess_is g.row.F c.args.mean c.args.variance c.quotient.result c.less.result c.exact.result c.quotient.ensures c.exact.ensures.ends c.less.ensures.ends

pub returns-clause-most : goal.returns-clause-most
returns-clause-most g c =
    excess_most g.row.F c.args.mean c.args.variance c.less.result c.requires.mean_least c.requires.ratio
    (excess_is g.row.F c.args.mean c.args.variance c.quotient.result c.less.result c.exact.result c.quotient.ensures c.exact.ensures.ends c.less.ensures.ends)
