use Rattle.std.proofs.Common.{◌+◌, ◌*◌, ◌^◌, ◌≤◌, ◌∙◌, ap, ap₂, sym, subst, arith}
use Rattle.std.proofs.lemmas.Nat.{mul-le}
use Rattle.hull.specs.Curves.{InRange, lagrangian}
use Rattle.family_rows.specs.Spots.{spot_point}
use Rattle.family_points.proofs.Public.{choice_range}
use Rattle.family_floors.proofs.least.value_at.Goals as goal

pub overflow_mul-result : goal.overflow_mul-result
overflow_mul-result g c =
    let here = c.args.here.now in
    let x = here.family.now in
    let r : InRange (spot_point c.spot_at-spot.result) = subst InRange (sym c.spot_at-spot.ensures)
    (choice_range x c.requires.here.valid here.site.0 c.args.choice.now c.requires.choice c.requires.here.site g.S.Score.ends g.met.S.Score.leaves_room here.depot.now c.requires.here.depot) in
    let e = r.ends in let h = r.hi in
    let q : c.from.result ≤ 1000000000000 = omega (arith, c.from.ensures, c.requires.most_money) in
    let lo : c.lo.result ≤ 2 ^ 74 = omega (arith, c.lo.ensures, e, h) in
    let p : c.from.result * c.lo.result ≤ 1000000000000 * 2 ^ 74 = mul-le c.from.result c.lo.result 1000000000000 (2 ^ 74) q lo in
    omega (arith, p)

pub overflow_mul-result-2 : goal.overflow_mul-result-2
overflow_mul-result-2 g c =
    let here = c.args.here.now in
    let x = here.family.now in
    let r : InRange (spot_point c.spot_at-spot.result) = subst InRange (sym c.spot_at-spot.ensures)
    (choice_range x c.requires.here.valid here.site.0 c.args.choice.now c.requires.choice c.requires.here.site g.S.Score.ends g.met.S.Score.leaves_room here.depot.now c.requires.here.depot) in
    let k = r.cost in
    let cost : c.from-2.result ≤ 1000000000000 = omega (arith, c.from-2.ensures, c.cost.ensures, k) in
    let p : c.args.price.p * c.from-2.result ≤ 2 ^ 74 * 1000000000000 = mul-le c.args.price.p c.from-2.result (2 ^ 74) 1000000000000 c.requires.price cost in
    omega (arith, p)

pub overflow_add-result : goal.overflow_add-result
overflow_add-result g c =
    let here = c.args.here.now in
    let x = here.family.now in
    let r : InRange (spot_point c.spot_at-spot.result) = subst InRange (sym c.spot_at-spot.ensures)
    (choice_range x c.requires.here.valid here.site.0 c.args.choice.now c.requires.choice c.requires.here.site g.S.Score.ends g.met.S.Score.leaves_room here.depot.now c.requires.here.depot) in
    let e = r.ends in let h = r.hi in let k = r.cost in
    let q : c.from.result ≤ 1000000000000 = omega (arith, c.from.ensures, c.requires.most_money) in
    let lo : c.lo.result ≤ 2 ^ 74 = omega (arith, c.lo.ensures, e, h) in
    let cost : c.from-2.result ≤ 1000000000000 = omega (arith, c.from-2.ensures, c.cost.ensures, k) in
    let a : c.from.result * c.lo.result ≤ 1000000000000 * 2 ^ 74 = mul-le c.from.result c.lo.result 1000000000000 (2 ^ 74) q lo in
    let p : c.args.price.p * c.from-2.result ≤ 2 ^ 74 * 1000000000000 = mul-le c.args.price.p c.from-2.result (2 ^ 74) 1000000000000 c.requires.price cost in
    omega (arith, a, p)

pub returns-clause-most : goal.returns-clause-most
returns-clause-most g c =
    let here = c.args.here.now in
    let x = here.family.now in
    let r : InRange (spot_point c.spot_at-spot.result) = subst InRange (sym c.spot_at-spot.ensures)
    (choice_range x c.requires.here.valid here.site.0 c.args.choice.now c.requires.choice c.requires.here.site g.S.Score.ends g.met.S.Score.leaves_room here.depot.now c.requires.here.depot) in
    let e = r.ends in let h = r.hi in let k = r.cost in
    let q : c.from.result ≤ 1000000000000 = omega (arith, c.from.ensures, c.requires.most_money) in
    let lo : c.lo.result ≤ 2 ^ 74 = omega (arith, c.lo.ensures, e, h) in
    let cost : c.from-2.result ≤ 1000000000000 = omega (arith, c.from-2.ensures, c.cost.ensures, k) in
    let a : c.from.result * c.lo.result ≤ 1000000000000 * 2 ^ 74 = mul-le c.from.result c.lo.result 1000000000000 (2 ^ 74) q lo in
    let p : c.args.price.p * c.from-2.result ≤ 2 ^ 74 * 1000000000000 = mul-le c.args.price.p c.from-2.result (2 ^ 74) 1000000000000 c.requires.price cost in
    omega (arith, a, p)

pub spot_at-spot-requires-clause-here : goal.spot_at-spot-requires-clause-here
spot_at-spot-requires-clause-here g c = c.requires.here

pub spot_at-spot-requires-clause-rows : goal.spot_at-spot-requires-clause-rows
spot_at-spot-requires-clause-rows g c = c.requires.rows

pub spot_at-spot-requires-clause-choice : goal.spot_at-spot-requires-clause-choice
spot_at-spot-requires-clause-choice g c = c.requires.choice

pub returns-clause-value : goal.returns-clause-value
returns-clause-value g c =
    let p = c.args.price.p in
    let q = c.args.price.q in
    ap₂ (λ a b. a * b + p * c.from-2.result) c.from.ensures c.lo.ensures ∙ ap (λ k. q * c.spot_at-spot.result.lo + p * k) (c.from-2.ensures ∙ c.cost.ensures)
    ∙ ap (lagrangian p q) c.spot_at-spot.ensures
