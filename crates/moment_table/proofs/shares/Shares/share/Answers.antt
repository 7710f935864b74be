use Rattle.std.proofs.Common.{◌≤◌, ◌^◌, ◌∙◌, ap₂, arith, lit<, rules, pow_pos}
use Rattle.fixed_interval.specs.Ends.{InScale, ends_div}
use Rattle.fixed_interval.proofs.Public.{unit_most}
use Rattle.series_bounds.proofs.Public.{room_over}
use Rattle.moment_table.specs.Shares.{AreEnds}
use Rattle.moment_table.proofs.shares.Shares.share.Goals as goal

pub over-requires : goal.over-requires
over-requires g c =
    let s : InScale g.row.F = search rules in
    let ends : AreEnds g.row.F c.self.inside.sum c.in-Some.divisors = rw c.in-Some.is at c.self.invariant in
    let least : 2 ^ g.row.F ≤ c.self.inside.sum.lo = rw c.self.view_is c.requires.least in
    (lit< tt, (lit< tt, (omega (arith, c.requires.top, unit_most g.row.F s.1), (omega (arith, ends.lower, least, pow_pos g.row.F), ends.ordered))))

pub div-requires : goal.div-requires
div-requires g c =
    let s : InScale g.row.F = search rules in
    let least : 2 ^ g.row.F ≤ c.self.inside.sum.lo = rw c.self.view_is c.requires.least in
    (lit< tt, (omega (arith, least, pow_pos g.row.F), rw c.open.ensures (room_over g.row.F c.args.weight.hi s.1 (omega (arith, pow_pos g.row.F, c.requires.top)))))

pub returns-in-None : goal.returns-in-None
returns-in-None g c = c.of.ensures ∙ c.div.ensures.ends ∙ ap₂ (ends_div g.row.F) c.open.ensures c.self.view_is
