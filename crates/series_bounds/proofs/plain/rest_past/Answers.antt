use Rattle.std.proofs.Common.{◌≡◌, arith}
use Rattle.series_bounds.specs.Profile.{ratio_bound}
use Rattle.series_bounds.proofs.Bounds.{bound_is}
use Rattle.series_bounds.proofs.Unlisted.{early_on, late_on, late_end}
use Rattle.series_bounds.proofs.plain.rest_past.Goals as goal

pub returns-then-x-lt-FIRST_END-clause-goes_on : goal.returns-then-x-lt-FIRST_END-clause-goes_on
returns-then-x-lt-FIRST_END-clause-goes_on g c = early_on g.row.F c.args.mean c.args.excess c.args.x (omega (arith, c.if-x-lt-FIRST_END.true))

pub returns-in_err-rest-clause-goes_on : goal.returns-in_err-rest-clause-goes_on
returns-in_err-rest-clause-goes_on g c =
    let b : c.max-bound.result ≡ ratio_bound g.row.F c.args.mean c.args.excess c.args.x =
    bound_is g.row.F c.args.mean c.args.excess c.args.x c.max-bound.result c.hi.result c.far.result c.ratio.result
    c.hi.ensures.end c.ratio.ensures.ends c.far.ensures c.max-bound.ensures in
    rw c.from_residual.ensures
    (late_on g.row.F c.args.mean c.args.excess c.args.x c.max-bound.result c.args.top b c.requires.top c.requires.depth c.in_err-rest.ensures.goes_on)

pub returns-clause-ended : goal.returns-clause-ended
returns-clause-ended g c =
    let b : c.max-bound.result ≡ ratio_bound g.row.F c.args.mean c.args.excess c.args.x =
    bound_is g.row.F c.args.mean c.args.excess c.args.x c.max-bound.result c.hi.result c.far.result c.ratio.result
    c.hi.ensures.end c.ratio.ensures.ends c.far.ensures c.max-bound.ensures in
    late_end g.row.F c.args.mean c.args.excess c.args.x c.max-bound.result c.args.top c.in_ok-rest.rest b c.requires.top (omega (arith, c.if-x-lt-FIRST_END.false))
    c.in_ok-rest.ensures.bounded c.in_ok-rest.ensures.rest c.in_ok-rest.ensures.small
