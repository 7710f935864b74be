use Rattle.std.proofs.Common.{List, length, ap, ◌∙◌}
use Rattle.hull.specs.declared.point.Point.{Point}
use Rattle.price_bounds.specs.Sums.{cost_of}
use Rattle.step_walk.specs.Prefix.{picked}
use Rattle.marginal_alloc.proofs.Walking.{firsts_at}
use Rattle.marginal_alloc.proofs.start.first_cost.Goals as goal

pub returns : goal.returns
returns c =
    let e = c.in_ok-walk.ensures in
    let count = e.way.prefix.vertices.count ∙ ap (λ (cs : List (List Point)). length cs) e.same in
    c.cost_at.ensures ∙ ap cost_of (ap (picked c.args.curves.now) c.picks.ensures ∙ firsts_at c.args.curves.now c.in_ok-walk.walk.picks count e.zero)
