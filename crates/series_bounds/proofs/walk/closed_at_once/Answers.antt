use Rattle.std.proofs.Common.{◌≡◌, ◌+◌, ◌-◌, ◌*◌, ◌^◌, ◌≤◌, ◌∙◌, ap, ap₂, arith, lit<, rules, subst, pow-add, le_trans, mul-le-mul_right}
use Rattle.std.proofs.lemmas.Nat.{mul-le}
use Rattle.fixed_interval.specs.Ends.{Ends, InScale, IsInterval}
use Rattle.fixed_interval.proofs.Public.{unit_most}
use Rattle.series_bounds.specs.Profile.{least_end}
use Rattle.series_bounds.proofs.Ranges.{product_most}
use Rattle.series_bounds.proofs.Walks.{end_most}
use Rattle.series_bounds.proofs.Carried.{below_is}
use Rattle.series_bounds.proofs.Beginnings.{closed_sum}
use Rattle.series_bounds.proofs.walk.closed_at_once.Goals as goal

pub times-requires : goal.times-requires
times-requires g c =
    let s : InScale g.row.F = search rules in
    let b : least_end g.row.F c.args.mean c.args.excess ≤ 1024 = end_most g.row.F c.args.mean c.args.excess 1024 (omega (arith, c.requires.depth)) (omega arith) in
    (lit< tt, omega (arith, unit_most g.row.F s.1, product_most (2 ^ g.row.F) c.args.excess.hi c.args.start c.requires.excess_top (omega (arith, b, c.requires.start))))

pub overflow_add-start : goal.overflow_add-start
overflow_add-start g c =
    let b : least_end g.row.F c.args.mean c.args.excess ≤ 1024 = end_most g.row.F c.args.mean c.args.excess 1024 (omega (arith, c.requires.depth)) (omega arith) in
    record { fits = omega (arith, b, c.requires.start) }

pub of_ends-requires : goal.of_ends-requires
of_ends-requires g c =
    let s : InScale g.row.F = search rules in
    let v : IsInterval g.row.F c.args.low = search rules in
    let b : least_end g.row.F c.args.mean c.args.excess ≤ 1024 = end_most g.row.F c.args.mean c.args.excess 1024 (omega (arith, c.requires.depth)) (omega arith) in
    let m : c.args.low.hi ≤ 1024 * (8 * 2 ^ g.row.F) = le_trans c.requires.begun.sums.most (mul-le-mul_right (8 * 2 ^ g.row.F) b) in
    (lit< tt, (s, (omega (arith, v.ordered, c.lo-2.ensures.end, c.hi-2.ensures.end), omega (arith, m, c.hi-2.ensures.end, unit_most g.row.F s.1))))

pub returns : goal.returns
returns g c =
    let s : InScale g.row.F = search rules in
    let v : IsInterval g.row.F c.args.mean = search rules in
    let h : 2 ^ g.row.F ≡ 2 * 2 ^ (g.row.F - 1) = (let i : g.row.F ≡ 1 + (g.row.F - 1) = omega (arith, s.0) in ap (λ z. 2 ^ z) i ∙ pow-add 2 1 (g.row.F - 1)) in
    let a : c.add-above.result.hi ≡ c.args.mean.hi + c.args.excess.hi * c.args.start =
    ap (λ (z : Ends). z.hi) c.add-above.ensures.ends ∙ ap (λ (z : Ends). c.args.mean.hi + z.hi) c.times.ensures.ends in
    let w = below_is g.row.F c.args.excess c.exact.result c.add-step.result c.exact.ensures.ends c.add-step.ensures.ends in
    let t : c.times-below.result.lo ≡ (1 * 2 ^ g.row.F + c.args.excess.lo) * (c.args.start + 1) =
    ap (λ (z : Ends). z.lo) c.times-below.ensures.ends ∙ ap (λ (z : Ends). z.lo * (c.args.start + 1)) w in
    let l : (c.args.mean.hi + c.args.excess.hi * c.args.start) * 2 ≤ (1 * 2 ^ g.row.F + c.args.excess.lo) * (c.args.start + 1) =
    omega (arith, c.if-hi-lo.false, c.hi.ensures.end, c.lo.ensures.end, a, t) in
    closed_sum g.row.F c.args.mean c.args.excess c.args.low c.args.before c.of_ends.result (2 ^ (g.row.F - 1)) c.requires.depth c.requires.begun h
    (omega (arith, v.ordered, c.requires.positive)) (c.is_least.ensures.least c.if-not-is_least.false) (c.is_least.ensures.most c.if-not-is_least.false)
    (subst (λ z. (c.args.mean.hi + c.args.excess.hi * z) * 2 ≤ (1 * 2 ^ g.row.F + c.args.excess.lo) * (z + 1)) c.requires.start l)
    (omega (arith, c.if-hi-unit.false, c.hi-else-hi-lo.ensures.end, c.unit.ensures))
    (c.of_ends.ensures ∙ ap₂ (λ y z. record { lo = y; hi = z + 2 }) c.lo-2.ensures.end c.hi-2.ensures.end)

pub add-above-requires : goal.add-above-requires
add-above-requires g c =
    let s : InScale g.row.F = search rules in
    let b : least_end g.row.F c.args.mean c.args.excess ≤ 1024 = end_most g.row.F c.args.mean c.args.excess 1024 (omega (arith, c.requires.depth)) (omega arith) in
    let a = ap (λ (z : Ends). c.args.mean.hi + z.hi) c.times.ensures.ends in
    (lit< tt, rw a (omega (arith, unit_most g.row.F s.1, product_most (2 ^ g.row.F) c.args.excess.hi c.args.start c.requires.excess_top (omega (arith, b, c.requires.start)), c.requires.mean_top)))

pub exact-requires : goal.exact-requires
exact-requires g c = (let s : InScale g.row.F = search rules in (lit< tt, s))

pub add-step-requires : goal.add-step-requires
add-step-requires g c =
    let s : InScale g.row.F = search rules in
    let a = ap (λ (z : Ends). z.hi + c.args.excess.hi) c.exact.ensures.ends in
    (lit< tt, rw a (omega (arith, unit_most g.row.F s.1, c.requires.excess_top)))

pub times-below-requires : goal.times-below-requires
times-below-requires g c =
    let s : InScale g.row.F = search rules in
    let b : least_end g.row.F c.args.mean c.args.excess ≤ 1024 = end_most g.row.F c.args.mean c.args.excess 1024 (omega (arith, c.requires.depth)) (omega arith) in
    let a = ap (λ (z : Ends). z.hi * (c.args.start + 1)) c.add-step.ensures.ends ∙ ap (λ (z : Ends). (z.hi + c.args.excess.hi) * (c.args.start + 1)) c.exact.ensures.ends in
    let most : 1 * 2 ^ g.row.F + c.args.excess.hi ≤ 2049 * 2 ^ g.row.F = omega (arith, c.requires.excess_top) in
    let fewer : c.args.start + 1 ≤ 1025 = omega (arith, b, c.requires.start) in
    (lit< tt, rw a (omega (arith, unit_most g.row.F s.1, mul-le (1 * 2 ^ g.row.F + c.args.excess.hi) (c.args.start + 1) (2049 * 2 ^ g.row.F) 1025 most fewer)))

pub overflow_mul-hi : goal.overflow_mul-hi
overflow_mul-hi g c =
    let s : InScale g.row.F = search rules in
    let b : least_end g.row.F c.args.mean c.args.excess ≤ 1024 = end_most g.row.F c.args.mean c.args.excess 1024 (omega (arith, c.requires.depth)) (omega arith) in
    let a = c.hi.ensures.end ∙ ap (λ (z : Ends). z.hi) c.add-above.ensures.ends ∙ ap (λ (z : Ends). c.args.mean.hi + z.hi) c.times.ensures.ends in
    record { fits = omega (arith, a, unit_most g.row.F s.1, product_most (2 ^ g.row.F) c.args.excess.hi c.args.start c.requires.excess_top (omega (arith, b, c.requires.start)), c.requires.mean_top) }
