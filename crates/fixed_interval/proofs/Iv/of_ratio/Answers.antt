use Rattle.std.proofs.Common.{◌^◌, arith, refl}
use Rattle.fixed_interval.proofs.Laws.{ratio_encloses, ratio_valid, floor_split, ceil_split, rest_room}
use Rattle.fixed_interval.proofs.Iv.of_ratio.Goals as goal

pub scaled-rest-requires-clause-room : goal.scaled-rest-requires-clause-room
scaled-rest-requires-clause-room g c =
    omega (arith, rest_room g.row.F c.args.num c.args.den c.requires.scale.1 c.requires.divisor c.requires.small_divisor)

pub overflow_add-result : goal.overflow_add-result
overflow_add-result g c =
    let v = ratio_valid g.row.F c.args.num c.args.den c.requires.scale c.requires.divisor c.requires.small in
    rw (c.scaled-whole.ensures, c.scaled-rest.ensures, floor_split c.args.num c.args.den (2 ^ g.row.F) c.requires.divisor)
    (record { fits = omega (arith, v.ordered, v.room) })

pub overflow_add-result-2 : goal.overflow_add-result-2
overflow_add-result-2 g c =
    let v = ratio_valid g.row.F c.args.num c.args.den c.requires.scale c.requires.divisor c.requires.small in
    rw (c.quotient_up-above.ensures, c.scaled-whole.ensures, c.scaled-rest.ensures, ceil_split c.args.num c.args.den (2 ^ g.row.F) c.requires.divisor)
    (record { fits = omega (arith, v.room) })

pub invariant_of-result : goal.invariant_of-result
invariant_of-result g c =
    rw (
      c.quotient_up-above.ensures,
      c.scaled-whole.ensures,
      c.scaled-rest.ensures,
      floor_split c.args.num c.args.den (2 ^ g.row.F) c.requires.divisor,
      ceil_split c.args.num c.args.den (2 ^ g.row.F) c.requires.divisor,
    )
    (ratio_valid g.row.F c.args.num c.args.den c.requires.scale c.requires.divisor c.requires.small)

pub returns-clause-ends : goal.returns-clause-ends
returns-clause-ends g c =
    rw (
      c.quotient_up-above.ensures,
      c.scaled-whole.ensures,
      c.scaled-rest.ensures,
      floor_split c.args.num c.args.den (2 ^ g.row.F) c.requires.divisor,
      ceil_split c.args.num c.args.den (2 ^ g.row.F) c.requires.divisor,
    ) refl

pub returns-clause-encloses : goal.returns-clause-encloses
returns-clause-encloses g c = λ p.
    rw (
      c.quotient_up-above.ensures,
      c.scaled-whole.ensures,
      c.scaled-rest.ensures,
      floor_split c.args.num c.args.den (2 ^ g.row.F) c.requires.divisor,
      ceil_split c.args.num c.args.den (2 ^ g.row.F) c.requires.divisor,
    )
    (ratio_encloses g.row.F c.args.num c.args.den p)
