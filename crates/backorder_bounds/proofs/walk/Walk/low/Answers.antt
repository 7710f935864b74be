use Rattle.std.proofs.Common.{◌≤◌, subst}
use Rattle.backorder_bounds.specs.Places.{Place, low_end}
use Rattle.backorder_bounds.proofs.Falls.{walk_low}
use Rattle.backorder_bounds.proofs.walk.Walk.low.Goals as goal

pub returns : goal.returns
returns g c =
    let w = c.self.inside in
    subst (λ (p : Place). w.falling.low ≤ low_end g.row.F p) c.self.view_is (walk_low g.row.F w.mean w.variance w.stock w.lead w.falling c.self.invariant)
