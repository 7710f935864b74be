use Rattle.std.proofs.Common.{◌^◌, arith, rules}
use Rattle.fixed_interval.specs.Ends.{InScale}
use Rattle.fixed_interval.proofs.Public.{unit_most}
use Rattle.series_bounds.proofs.Ranges.{square_most}
use Rattle.series_bounds.proofs.plain.far.Goals as goal

pub overflow_mul-spread : goal.overflow_mul-spread
overflow_mul-spread g c =
    let s : InScale g.row.F = search rules in
    rw (c.hi-spread.ensures.end, c.unit-unit.ensures)
    (record { fits = omega (arith, square_most (2 ^ g.row.F) c.args.excess.hi 2048 (unit_most g.row.F s.1) c.requires.excess_top (omega arith)) })
