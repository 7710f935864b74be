use Rattle.budget_sweep.specs.Fits.{IsStepPrice}
use Rattle.hull.specs.declared.price.Price.{Price}
use Rattle.std.specs.Prelude.{IfSome}
use Rattle.std.proofs.lemmas.Nat.{mul-le}
use Rattle.std.proofs.Common.{◌*◌, ◌^◌, ◌≤◌, Option, subst, arith}
use Rattle.budget_sweep.proofs.reaching.floor_of.Goals as goal

pub overflow_add-own : goal.overflow_add-own
overflow_add-own c =
    let point = c.args.point.now in
    let price : IsStepPrice c.in-Some.price = subst (λ (o : Option Price). IfSome o IsStepPrice) c.in-Some.is c.requires.small.price in
    let rise = price.most_rise in
    let fall = price.most_fall in
    let q : c.from.result ≤ 1000000000000 = omega (arith, c.from.ensures, rise) in
    let lo : point.lo ≤ 2 ^ 85 = omega (arith, c.requires.small.ends, c.requires.small.hi) in
    let p : c.in-Some.price.p ≤ 2 ^ 74 = omega (arith, fall) in
    let cost : c.from-2.result ≤ 2000000000000000 = omega (arith, c.from-2.ensures, c.requires.small.cost) in
    let a : c.from.result * point.lo ≤ 1000000000000 * 2 ^ 85 = mul-le c.from.result point.lo 1000000000000 (2 ^ 85) q lo in
    let b : c.in-Some.price.p * c.from-2.result ≤ 2 ^ 74 * 2000000000000000 = mul-le c.in-Some.price.p c.from-2.result (2 ^ 74) 2000000000000000 p cost in
    omega (arith, a, b)
