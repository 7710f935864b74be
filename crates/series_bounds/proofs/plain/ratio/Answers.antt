use Rattle.std.proofs.Common.{◌<◌, ◌*◌, ◌+◌, ◌-◌, ◌^◌, ◌≡◌, ◌≤◌, arith, pow_pos, ap, ◌∙◌, lit<, rules, refl}
use Rattle.std.proofs.Math.Nat.{mul-pos}
use Rattle.std.proofs.lemmas.Nat.{mul-le}
use Rattle.fixed_interval.specs.Ends.{Ends, InScale}
use Rattle.fixed_interval.proofs.Public.{unit_most}
use Rattle.series_bounds.specs.Profile.{ratio_ends}
use Rattle.series_bounds.proofs.Ranges.{product_most, above_most, room_over, ratio_most}
use Rattle.series_bounds.proofs.plain.ratio.Goals as goal

pub times-requires : goal.times-requires
times-requires g c =
    let s : InScale g.row.F = search rules in
    (lit< tt, omega (arith, unit_most g.row.F s.1, product_most (2 ^ g.row.F) c.args.excess.hi (c.args.x - 1) c.requires.excess_top (omega (arith, c.requires.depth))))

pub div-requires : goal.div-requires
div-requires g c =
    let s : InScale g.row.F = search rules in
    let p : 0 < 2 ^ g.row.F = pow_pos g.row.F in
    let a : c.add-above.result.hi ≡ c.args.mean.hi + c.args.excess.hi * (c.args.x - 1) =
    ap (λ (z : Ends). z.hi) c.add-above.ensures.ends ∙ ap (λ (z : Ends). c.args.mean.hi + z.hi) c.times.ensures.ends in
    let b : c.times-below.result.lo ≡ (1 * 2 ^ g.row.F + c.args.excess.lo) * c.args.x =
    ap (λ (z : Ends). z.lo) c.times-below.ensures.ends ∙ ap (λ (z : Ends). z.lo * c.args.x) c.add.ensures.ends ∙ ap (λ (z : Ends). (z.lo + c.args.excess.lo) * c.args.x) c.exact.ensures.ends in
    (lit< tt, (rw b (mul-pos {m = 1 * 2 ^ g.row.F + c.args.excess.lo} {n = c.args.x} (omega arith) c.requires.from), room_over g.row.F c.add-above.result.hi s.1 (rw a (above_most (2 ^ g.row.F) c.args.mean.hi c.args.excess.hi c.args.x p c.requires.mean_top c.requires.excess_top c.requires.depth))))

pub returns-clause-ends : goal.returns-clause-ends
unfolding ratio_ends
returns-clause-ends g c = rw (c.div.ensures.ends, c.add-above.ensures.ends, c.times-below.ensures.ends, c.times.ensures.ends, c.add.ensures.ends, c.exact.ensures.ends) refl

pub returns-clause-top : goal.returns-clause-top
returns-clause-top g c =
    rw (c.div.ensures.ends, c.add-above.ensures.ends, c.times-below.ensures.ends, c.times.ensures.ends, c.add.ensures.ends, c.exact.ensures.ends)
    (ratio_most (2 ^ g.row.F) c.args.mean.hi c.args.excess.hi c.args.excess.lo c.args.x (pow_pos g.row.F) c.requires.from c.requires.mean_top c.requires.excess_top)

pub overflow_sub-x : goal.overflow_sub-x
overflow_sub-x g c = c.requires.from

pub add-above-requires : goal.add-above-requires
add-above-requires g c =
    let s : InScale g.row.F = search rules in
    let a = ap (λ (z : Ends). c.args.mean.hi + z.hi) c.times.ensures.ends in
    (lit< tt, rw a (omega (arith, unit_most g.row.F s.1, above_most (2 ^ g.row.F) c.args.mean.hi c.args.excess.hi c.args.x (pow_pos g.row.F) c.requires.mean_top c.requires.excess_top c.requires.depth)))

pub exact-requires : goal.exact-requires
exact-requires g c = (let s : InScale g.row.F = search rules in (lit< tt, s))

pub add-requires : goal.add-requires
add-requires g c =
    let s : InScale g.row.F = search rules in
    let a = ap (λ (z : Ends). z.hi + c.args.excess.hi) c.exact.ensures.ends in
    (lit< tt, rw a (omega (arith, unit_most g.row.F s.1, c.requires.excess_top)))

pub times-below-requires : goal.times-below-requires
times-below-requires g c =
    let s : InScale g.row.F = search rules in
    let a = ap (λ (z : Ends). z.hi * c.args.x) c.add.ensures.ends ∙ ap (λ (z : Ends). (z.hi + c.args.excess.hi) * c.args.x) c.exact.ensures.ends in
    let most : 1 * 2 ^ g.row.F + c.args.excess.hi ≤ 2049 * 2 ^ g.row.F = omega (arith, c.requires.excess_top) in
    (lit< tt, rw a (omega (arith, unit_most g.row.F s.1, mul-le (1 * 2 ^ g.row.F + c.args.excess.hi) c.args.x (2049 * 2 ^ g.row.F) 1025 most c.requires.depth)))
