use Rattle.std.proofs.Common.{◌<◌, ◌∙◌, arith, ap}
use Rattle.series_bounds.proofs.Public.{wide_answer}
use Rattle.moment_table.specs.Stored.{bare_row}
use Rattle.moment_table.specs.Profile.{excess_ends}
use Rattle.moment_table.proofs.Enclosure.{bare_empty, bare_wide}
use Rattle.moment_table.proofs.plain.plain_row.Goals as goal

pub returns-then-hi-eq0 : goal.returns-then-hi-eq0
returns-then-hi-eq0 g c =
    c.bare_row.ensures ∙ ap (bare_row g.row.F c.args.mean c.args.variance) c.from.ensures
    ∙ bare_empty g.row.F c.args.mean c.args.variance (omega (arith, c.if-hi-eq0.true, c.hi.ensures.end)) c.args.stock c.requires.stock

pub returns-in-None : goal.returns-in-None
returns-in-None g c =
    let p : 0 < c.args.mean.hi = omega (arith, c.if-hi-eq0.false, c.hi.ensures.end) in
    c.bare_row-in-None.ensures ∙ ap (bare_row g.row.F c.args.mean c.args.variance) c.from-in-None.ensures
    ∙ bare_wide g.row.F c.args.mean c.args.variance p
    (wide_answer g.row.F c.args.mean (excess_ends g.row.F c.args.mean c.args.variance) c.in-None.ensures.wide) c.args.stock c.requires.stock
