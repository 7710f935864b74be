use Rattle.std.proofs.Common.{◌^◌, arith, lit<, rules}
use Rattle.fixed_interval.specs.Ends.{InScale}
use Rattle.fixed_interval.proofs.Public.{unit_most}
use Rattle.series_bounds.proofs.Ranges.{pair_room}
use Rattle.series_bounds.proofs.plain.times.Goals as goal

pub mul-requires : goal.mul-requires
mul-requires g c =
    let s : InScale g.row.F = search rules in
    let o = unit_most g.row.F s.1 in
    (lit< tt, omega (arith, pair_room (2 ^ g.row.F) c.args.weight.hi c.args.ratio.hi o c.requires.top c.requires.ratio_top))
