use Rattle.std.proofs.Common.{◌*◌, ◌^◌, ◌≤◌, arith}
use Rattle.std.proofs.lemmas.Nat.{mul-le}
use Rattle.family_bases.proofs.lows.lagrangian.Goals as goal

pub overflow_mul-result : goal.overflow_mul-result
overflow_mul-result c =
    let q : c.from.result ≤ 1000000000000 = omega (arith, c.from.ensures, c.requires.price.q) in
    let m : c.from.result * c.args.scored ≤ 1000000000000 * 2 ^ 74 = mul-le c.from.result c.args.scored 1000000000000 (2 ^ 74) q c.requires.scored in
    omega (arith, m)

pub overflow_mul-result-2 : goal.overflow_mul-result-2
overflow_mul-result-2 c =
    let k : c.from-2.result ≤ 1000000000000 = omega (arith, c.from-2.ensures, c.requires.cost) in
    let m : c.args.price.p * c.from-2.result ≤ 2 ^ 74 * 1000000000000 = mul-le c.args.price.p c.from-2.result (2 ^ 74) 1000000000000 c.requires.price.p k in
    omega (arith, m)

pub overflow_add-result : goal.overflow_add-result
overflow_add-result c =
    let q : c.from.result ≤ 1000000000000 = omega (arith, c.from.ensures, c.requires.price.q) in
    let k : c.from-2.result ≤ 1000000000000 = omega (arith, c.from-2.ensures, c.requires.cost) in
    let m : c.from.result * c.args.scored ≤ 1000000000000 * 2 ^ 74 = mul-le c.from.result c.args.scored 1000000000000 (2 ^ 74) q c.requires.scored in
    let n : c.args.price.p * c.from-2.result ≤ 2 ^ 74 * 1000000000000 = mul-le c.args.price.p c.from-2.result (2 ^ 74) 1000000000000 c.requires.price.p k in
    omega (arith, m, n)
