use Rattle.std.proofs.Common.{◌∙◌, ap}
use Rattle.fixed_interval.specs.Ends.{Ends, ends_less}
use Rattle.moment_table.proofs.Steps.{wide_is}
use Rattle.moment_table.proofs.rows.wide_row.Goals as goal

pub returns : goal.returns
returns g c =
    wide_is g.row.F c.args.mean c.args.variance c.less-short.result c.max_of-start.result c.exact-2.result c.of_ends.result c.of_ends-2.result c.of_ends-3.result
    c.args.stock c.lo.result c.hi.result c.hi-2.result c.hi-3.result
    c.max_of-start.ensures.ends (c.less-short.ensures.ends ∙ ap (λ (z : Ends). ends_less c.args.mean z) c.exact.ensures.ends) c.exact-2.ensures.ends
    c.lo.ensures.end c.hi.ensures.end c.hi-2.ensures.end c.hi-3.ensures.end c.of_ends.ensures c.of_ends-2.ensures c.of_ends-3.ensures
