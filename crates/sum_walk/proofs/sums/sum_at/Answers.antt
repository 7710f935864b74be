use Rattle.std.proofs.Common.{◌∙◌}
use Rattle.sum_walk.specs.Lanes.{stands, together}
use Rattle.sum_walk.proofs.Parts.{point_made}
use Rattle.sum_walk.proofs.sums.sum_at.Goals as goal

pub returns : goal.returns
returns g c =
    let is = c.requires.place in
    point_made (together c.args.first.now (stands c.args.curves.now c.args.lanes.now)) c.args.place.cost c.args.place.lo c.upper_end.result c.of.result is.cost is.lo c.upper_end.ensures
    (c.of.ensures ∙ c.in_ok-stocks.ensures)
