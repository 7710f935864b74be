use Rattle.std.proofs.Common.{◌≤◌, ◌^◌, arith}
use Rattle.std.proofs.lemmas.Nat.{mul-le}
use Rattle.case_plan.proofs.numbers.hull_numbers.Goals as goal

pub overflow_mul-paid : goal.overflow_mul-paid
overflow_mul-paid c =
    let budget : c.from.result ≤ 1000000000000000 = (let b = c.requires.budget in let e = c.from.ensures in omega (arith, b, e)) in
    let paid = mul-le c.args.price.p c.from.result (2 ^ 74) 1000000000000000 c.requires.price.p budget in
    omega (arith, paid)
