use Rattle.std.proofs.Common.{List, length, ap, ◌∙◌, arith}
use Rattle.hull.specs.declared.point.Point.{Point}
use Rattle.price_bounds.specs.Sums.{cost_of}
use Rattle.step_walk.specs.Prefix.{picked}
use Rattle.marginal_alloc.proofs.Walking.{firsts_at}
use Rattle.marginal_alloc.proofs.start.start.Goals as goal

pub returns-clause-fits : goal.returns-clause-fits
returns-clause-fits c =
    let e = c.in_ok-walk-2.ensures in
    let count = e.way.prefix.vertices.count ∙ ap (λ (cs : List (List Point)). length cs) e.same in
    let first = ap cost_of (ap (picked c.args.curves.now) c.picks-2.ensures ∙ firsts_at c.args.curves.now c.in_ok-walk-2.walk.picks count e.zero) in
    let cost = c.cost_at-cost-2.ensures in
    let fits = c.requires.firsts in
    omega (arith, first, cost, fits)
