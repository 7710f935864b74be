use Rattle.std.proofs.Common.{◌*◌, ◌^◌, ap, arith, pow_pos}
use Rattle.fixed_interval.proofs.Public.{unit_most}
use Rattle.series_bounds.proofs.Carried.{scaled_room, same_parts}
use Rattle.series_bounds.proofs.Ranges.{part_room}
use Rattle.series_bounds.proofs.ratios.parts_of.Goals as goal

pub overflow_mul-num : goal.overflow_mul-num
overflow_mul-num g c =
    let v = c.number-den.ensures.valid in
    record { fits = omega (arith, scaled_room g.row.F c.args.num c.unit.result c.args.by c.requires.scale.1 c.unit.ensures (omega (arith, v.1)) c.requires.room) }

pub of-requires : goal.of-requires
of-requires g c =
    let v = c.number-den.ensures.valid in
    let e = c.number-den.ensures.number in
    let r = part_room (2 ^ g.row.F) c.args.num c.args.by (unit_most g.row.F c.requires.scale.1) (omega (arith, v.0, pow_pos g.row.F)) c.requires.room in
    record { divisor = omega (arith, e, v.0, pow_pos g.row.F); room = rw (c.unit.ensures, e) r }

pub returns-else-num : goal.returns-else-num
returns-else-num g c = same_parts _ _ _ _ c.of.result (ap (λ z. c.args.num * z) c.unit.ensures) c.number-den.ensures.number c.of.ensures
