use Rattle.std.proofs.Common.{◌+◌, ◌≤◌, ◌*◌, ◌^◌, arith, rules, lit<, le_trans, mul-le-mul_right}
use Rattle.fixed_interval.specs.Ends.{InScale}
use Rattle.fixed_interval.proofs.Public.{unit_most}
use Rattle.series_bounds.proofs.Unlisted.{Climb, climb_from, climb_wide, climb_next, climb_at, early_on}
use Rattle.series_bounds.proofs.walk.one_on.Goals as goal

pub returns-then-passes_8-clause-wide : goal.returns-then-passes_8-clause-wide
returns-then-passes_8-clause-wide g c =
    let at : Climb g.row.F c.args.mean c.args.excess c.args.from.last c.args.from.sum c.args.from.next =
    climb_from g.row.F c.args.mean c.args.excess c.args.from.last c.args.from.sum c.args.from.next c.requires.begun (omega (arith, c.requires.within)) in
    climb_wide g.row.F c.args.mean c.args.excess c.args.from.last c.args.from.sum c.times-last.result c.take.result c.args.from.next at
    c.take.ensures.ends c.times-last.ensures c.requires.depth (omega (arith, c.requires.within)) (c.passes_8.ensures.passes c.if-passes_8.true)

pub add-requires : goal.add-requires
add-requires g c =
    let s : InScale g.row.F = search rules in
    let t : c.times-last.result.hi ≤ 8 * 2 ^ g.row.F = c.passes_8.ensures.below c.if-passes_8.false in
    let m : c.args.from.sum.hi ≤ 63 * (8 * 2 ^ g.row.F) =
    le_trans c.requires.begun.sums.most (mul-le-mul_right (8 * 2 ^ g.row.F) (omega (arith, c.requires.within))) in
    (lit< tt, omega (arith, t, m, unit_most g.row.F s.1))

pub returns-clause-known : goal.returns-clause-known
returns-clause-known g c =
    let at : Climb g.row.F c.args.mean c.args.excess c.args.from.last c.args.from.sum c.args.from.next =
    climb_from g.row.F c.args.mean c.args.excess c.args.from.last c.args.from.sum c.args.from.next c.requires.begun (omega (arith, c.requires.within)) in
    let n : Climb g.row.F c.args.mean c.args.excess c.times-last.result c.add.result (c.args.from.next + 1) =
    climb_next g.row.F c.args.mean c.args.excess c.args.from.last c.args.from.sum c.times-last.result c.take.result c.args.from.next at
    c.take.ensures.ends c.times-last.ensures (c.passes_8.ensures.below c.if-passes_8.false)
    c.add.result c.add.ensures.ends (early_on g.row.F c.args.mean c.args.excess c.args.from.next c.requires.within) in
    climb_at g.row.F c.args.mean c.args.excess c.times-last.result c.add.result (c.args.from.next + 1) n (omega (arith, c.requires.within))
