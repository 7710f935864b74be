use Rattle.std.proofs.Common.{◌≡◌, ◌+◌, ◌-◌, ◌*◌, ◌^◌, ◌≤◌, ◌∙◌, sym, ap, ap₂, subst, arith, lit<, rules, mul-le-mul, mul-le-mul_right, le_trans}
use Rattle.fixed_interval.specs.Ends.{Ends, InScale, ends_add, ends_times}
use Rattle.fixed_interval.proofs.Public.{unit_most}
use Rattle.series_bounds.specs.Walk.{SumsTo}
use Rattle.series_bounds.proofs.Beginnings.{sums_level}
use Rattle.series_bounds.proofs.walk.level_sum.Goals as goal

pub times-requires : goal.times-requires
times-requires g c =
    let s : InScale g.row.F = search rules in
    let o : c.args.last.hi ≤ 8 * 2 ^ 52 = omega (arith, c.requires.top, unit_most g.row.F s.1) in
    let p : c.args.last.hi * (c.args.start - c.args.next) ≤ (8 * 2 ^ 52) * 1025 =
    mul-le-mul {n₁ = c.args.last.hi} {m₁ = c.args.start - c.args.next} {n₂ = 8 * 2 ^ 52} {m₂ = 1025} o (omega (arith, c.requires.depth)) in
    (lit< tt, rw c.open-2.ensures (omega (arith, p)))

pub add-requires : goal.add-requires
add-requires g c =
    let s : InScale g.row.F = search rules in
    let u = unit_most g.row.F s.1 in
    let o : c.args.last.hi ≤ 8 * 2 ^ 52 = omega (arith, c.requires.top, u) in
    let p : c.args.last.hi * (c.args.start - c.args.next) ≤ (8 * 2 ^ 52) * 1025 =
    mul-le-mul {n₁ = c.args.last.hi} {m₁ = c.args.start - c.args.next} {n₂ = 8 * 2 ^ 52} {m₂ = 1025} o (omega (arith, c.requires.depth)) in
    let t : c.times.result.hi ≡ c.args.last.hi * (c.args.start - c.args.next) =
    ap (λ (z : Ends). z.hi) c.times.ensures.ends ∙ ap (λ (z : Ends). z.hi * (c.args.start - c.args.next)) c.open-2.ensures in
    let m : c.args.sum.hi ≤ 1025 * (8 * 2 ^ g.row.F) =
    le_trans c.requires.sums.most (mul-le-mul_right (8 * 2 ^ g.row.F) (omega (arith, c.requires.next, c.requires.depth))) in
    (lit< tt, omega (arith, p, t, m, u, ap (λ (z : Ends). z.hi) c.open.ensures))

pub returns : goal.returns
returns g c =
    let i : c.args.next + (c.args.start - c.args.next) ≡ c.args.start = omega (arith, c.requires.next) in
    let e : c.add.result ≡ ends_add c.args.sum (ends_times c.args.last (c.args.start - c.args.next)) =
    c.add.ensures.ends ∙ ap₂ ends_add c.open.ensures (c.times.ensures.ends ∙ ap (λ (z : Ends). ends_times z (c.args.start - c.args.next)) c.open-2.ensures) in
    let k = sums_level g.row.F c.args.mean c.args.excess c.args.sum c.args.last c.args.next (c.args.start - c.args.next) c.requires.sums c.requires.top
    (λ x a b. c.requires.same x a (omega (arith, b, c.requires.next))) in
    subst (λ z. SumsTo g.row.F c.args.mean c.args.excess c.add.result z) i
    (subst (λ (z : Ends). SumsTo g.row.F c.args.mean c.args.excess z (c.args.next + (c.args.start - c.args.next))) (sym e) k)
