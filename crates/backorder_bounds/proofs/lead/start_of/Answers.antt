use Rattle.std.proofs.Common.{◌≡◌, ◌/◌, ◌^◌, ◌∙◌, ap, arith, refl, sym}
use Rattle.fixed_interval.specs.Ends.{ends_less}
use Rattle.series_bounds.specs.Profile.{pivot_at}
use Rattle.series_bounds.proofs.Public.{pivot_is}
use Rattle.moment_table.specs.Profile.{excess_ends}
use Rattle.moment_table.proofs.Public.{excess_is}
use Rattle.backorder_bounds.proofs.Parts.{pivot_first}
use Rattle.backorder_bounds.proofs.Starts.{start_at_once}
use Rattle.backorder_bounds.proofs.lead.start_of.Goals as goal

pub returns-then-over-lt-UNIT-clause-start : goal.returns-then-over-lt-UNIT-clause-start
returns-then-over-lt-UNIT-clause-start g c =
    let d = excess_ends g.row.F c.args.mean c.args.variance in
    start_at_once g.row.F c.args.mean d c.requires.over.places (pivot_first g.row.F c.args.mean d c.args.over c.requires.over (omega (arith, c.if-over-lt-UNIT.true)))

pub returns-clause-start : goal.returns-clause-start
returns-clause-start g c =
    let f = g.row.F in
    let m = c.args.mean in
    let d = excess_ends f m c.args.variance in
    let ed : c.less-excess.result ≡ d =
    excess_is f m c.args.variance c.quotient.result c.less-excess.result c.exact.result c.quotient.ensures c.exact.ensures.ends c.less-excess.ensures.ends in
    let p : c.lo.result / 2 ^ f ≡ pivot_at f m d = pivot_is f m d (c.lo.result / 2 ^ f) c.lo.result (2 ^ f) c.less.result c.lo.ensures.end (c.less.ensures.ends ∙ ap (ends_less m) ed) refl refl in
    c.walked_down.ensures.start f m d (sym p) c.requires.over c.requires.under
