use Rattle.std.proofs.Common.{arith, lit<, rules, pow_pos}
use Rattle.fixed_interval.specs.Ends.{InScale}
use Rattle.series_bounds.proofs.Ranges.{room_over}
use Rattle.series_bounds.proofs.shares.div_near.Goals as goal

pub div-requires : goal.div-requires
div-requires g c =
    let s : InScale g.row.F = search rules in
    (lit< tt, (c.requires.divisor, room_over g.row.F c.args.a.hi s.1 (omega (arith, pow_pos g.row.F, c.requires.room))))
