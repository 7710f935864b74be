use Rattle.std.proofs.Common.{◌<◌, ◌*◌, ◌+◌, ◌-◌, ◌^◌, ◌≡◌, arith, pow_pos, ap, ◌∙◌, lit<, rules, refl}
use Rattle.fixed_interval.specs.Ends.{Ends, InScale, IsInterval}
use Rattle.fixed_interval.proofs.Public.{unit_most}
use Rattle.series_bounds.specs.Profile.{back_ends}
use Rattle.series_bounds.proofs.Ranges.{room_over, back_room, back_most, rest_room}
use Rattle.series_bounds.proofs.plain.back.Goals as goal

pub times-above-requires : goal.times-above-requires
times-above-requires g c =
    let s : InScale g.row.F = search rules in
    let v : IsInterval g.row.F c.args.mean = search rules in
    let a : c.add.result.hi ≡ 1 * 2 ^ g.row.F + c.args.excess.hi = ap (λ (z : Ends). z.hi) c.add.ensures.ends ∙ ap (λ (z : Ends). z.hi + c.args.excess.hi) c.exact.ensures.ends in
    (lit< tt, rw a (omega (arith, unit_most g.row.F s.1, back_room (2 ^ g.row.F) c.args.mean.hi c.args.excess.hi c.args.mean.lo c.args.x c.requires.mean_top v.ordered c.requires.above c.requires.depth)))

pub div-requires : goal.div-requires
div-requires g c =
    let s : InScale g.row.F = search rules in
    let v : IsInterval g.row.F c.args.mean = search rules in
    let p : 0 < 2 ^ g.row.F = pow_pos g.row.F in
    let a : c.times-above.result.hi ≡ (1 * 2 ^ g.row.F + c.args.excess.hi) * c.args.x =
    ap (λ (z : Ends). z.hi) c.times-above.ensures.ends ∙ ap (λ (z : Ends). z.hi * c.args.x) c.add.ensures.ends ∙ ap (λ (z : Ends). (z.hi + c.args.excess.hi) * c.args.x) c.exact.ensures.ends in
    let b : c.add-below.result.lo ≡ c.args.mean.lo + c.args.excess.lo * (c.args.x - 1) =
    ap (λ (z : Ends). z.lo) c.add-below.ensures.ends ∙ ap (λ (z : Ends). c.args.mean.lo + z.lo) c.times.ensures.ends in (
      lit< tt,
      (
        rw b (omega (arith, p, c.requires.above)),
        room_over g.row.F c.times-above.result.hi s.1
            (rw a (omega (arith, p, back_room (2 ^ g.row.F) c.args.mean.hi c.args.excess.hi c.args.mean.lo c.args.x c.requires.mean_top v.ordered c.requires.above c.requires.depth))),
      ),
    )

pub returns-clause-ends : goal.returns-clause-ends
unfolding back_ends
returns-clause-ends g c = rw (c.div.ensures.ends, c.times-above.ensures.ends, c.add-below.ensures.ends, c.add.ensures.ends, c.times.ensures.ends, c.exact.ensures.ends) refl

pub returns-clause-top : goal.returns-clause-top
returns-clause-top g c =
    rw (c.div.ensures.ends, c.times-above.ensures.ends, c.add-below.ensures.ends, c.add.ensures.ends, c.times.ensures.ends, c.exact.ensures.ends)
    (back_most (2 ^ g.row.F) c.args.excess.hi c.args.mean.lo c.args.excess.lo c.args.x (pow_pos g.row.F) c.requires.above c.requires.depth)

pub exact-requires : goal.exact-requires
exact-requires g c = (let s : InScale g.row.F = search rules in (lit< tt, s))

pub add-requires : goal.add-requires
add-requires g c =
    let s : InScale g.row.F = search rules in
    let v : IsInterval g.row.F c.args.mean = search rules in
    let a = ap (λ (z : Ends). z.hi + c.args.excess.hi) c.exact.ensures.ends in
    (lit< tt, rw a (omega (arith, unit_most g.row.F s.1, c.requires.above, v.ordered, c.requires.mean_top)))

pub overflow_sub-x : goal.overflow_sub-x
overflow_sub-x g c = c.requires.from

pub times-requires : goal.times-requires
times-requires g c =
    let s : InScale g.row.F = search rules in
    let v : IsInterval g.row.F c.args.mean = search rules in
    (lit< tt, omega (arith, unit_most g.row.F s.1, rest_room (2 ^ g.row.F) c.args.mean.hi c.args.excess.hi c.args.mean.lo c.args.x c.requires.mean_top v.ordered c.requires.above c.requires.depth))

pub add-below-requires : goal.add-below-requires
add-below-requires g c =
    let s : InScale g.row.F = search rules in
    let v : IsInterval g.row.F c.args.mean = search rules in
    let a = ap (λ (z : Ends). c.args.mean.hi + z.hi) c.times.ensures.ends in
    (lit< tt, rw a (omega (arith, unit_most g.row.F s.1, c.requires.mean_top, rest_room (2 ^ g.row.F) c.args.mean.hi c.args.excess.hi c.args.mean.lo c.args.x c.requires.mean_top v.ordered c.requires.above c.requires.depth)))
