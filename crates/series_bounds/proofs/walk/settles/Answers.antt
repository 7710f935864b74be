use Rattle.std.proofs.Common.{◌+◌, ◌-◌, ◌*◌, ◌^◌, ◌≤◌, ◌∙◌, ap, arith, lit<, rules}
use Rattle.std.proofs.lemmas.Nat.{mul-le}
use Rattle.fixed_interval.specs.Ends.{Ends, InScale}
use Rattle.fixed_interval.proofs.Public.{unit_most}
use Rattle.series_bounds.proofs.Ranges.{product_most}
use Rattle.series_bounds.proofs.walk.settles.Goals as goal

pub times-requires : goal.times-requires
times-requires g c =
    let s : InScale g.row.F = search rules in
    (lit< tt, omega (arith, unit_most g.row.F s.1, product_most (2 ^ g.row.F) c.args.excess.now.hi (c.args.x - 1) c.requires.excess_top (omega (arith, c.requires.depth))))

pub overflow_sub-x : goal.overflow_sub-x
overflow_sub-x g c = c.requires.from

pub add-above-requires : goal.add-above-requires
add-above-requires g c =
    let s : InScale g.row.F = search rules in
    let a = ap (λ (z : Ends). c.args.mean.now.hi + z.hi) c.times.ensures.ends in
    (lit< tt, rw a (omega (arith, unit_most g.row.F s.1, product_most (2 ^ g.row.F) c.args.excess.now.hi (c.args.x - 1) c.requires.excess_top (omega (arith, c.requires.depth)), c.requires.mean_top)))

pub exact-requires : goal.exact-requires
exact-requires g c = (let s : InScale g.row.F = search rules in (lit< tt, s))

pub add-step-requires : goal.add-step-requires
add-step-requires g c =
    let s : InScale g.row.F = search rules in
    let a = ap (λ (z : Ends). z.hi + c.args.excess.now.hi) c.exact.ensures.ends in
    (lit< tt, rw a (omega (arith, unit_most g.row.F s.1, c.requires.excess_top)))

pub times-below-requires : goal.times-below-requires
times-below-requires g c =
    let s : InScale g.row.F = search rules in
    let a = ap (λ (z : Ends). z.hi * c.args.x) c.add-step.ensures.ends ∙ ap (λ (z : Ends). (z.hi + c.args.excess.now.hi) * c.args.x) c.exact.ensures.ends in
    let most : 1 * 2 ^ g.row.F + c.args.excess.now.hi ≤ 2049 * 2 ^ g.row.F = omega (arith, c.requires.excess_top) in
    let fewer : c.args.x ≤ 1025 = omega (arith, c.requires.depth) in
    (lit< tt, rw a (omega (arith, unit_most g.row.F s.1, mul-le (1 * 2 ^ g.row.F + c.args.excess.now.hi) c.args.x (2049 * 2 ^ g.row.F) 1025 most fewer)))
