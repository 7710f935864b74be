use Rattle.std.proofs.Common.{◌∙◌, ap, ap₂, lit<}
use Rattle.fixed_interval.specs.Ends.{Ends, ends_div}
use Rattle.series_bounds.proofs.Carried.{share_ordered}
use Rattle.series_bounds.proofs.short.Iv64.over.Goals as goal

pub of_ends-requires : goal.of_ends-requires
of_ends-requires g c =
    let ordered = share_ordered g.row.F c.self.inside.lo c.self.inside.hi c.args.lower c.args.upper c.floor-least.result c.ceil-most.result
    c.self.invariant.ordered c.requires.least c.requires.ordered c.floor-least.ensures c.ceil-most.ensures in
    (lit< tt, ((c.self.invariant.least_scale, c.self.invariant.most_scale), ordered))

pub returns : goal.returns
returns g c =
    c.of_ends.ensures ∙ ap₂ (λ y z. record { lo = y; hi = z }) c.floor-least.ensures c.ceil-most.ensures
    ∙ ap (λ (z : Ends). ends_div g.row.F z (record { lo = c.args.lower; hi = c.args.upper })) c.self.view_is
