use Rattle.std.proofs.Common.{◌≡◌, ℕ, ◌*◌, ◌^◌, ◌<◌, ◌≤◌, arith}
use Rattle.std.proofs.lemmas.Nat.{mul-le}
use Rattle.case_plan.proofs.numbers.lagrangian_of.Goals as goal

-- the ranges bound both products
first : (q lo hi x : ℕ) → q ≤ 1000000000000 → lo ≤ hi → hi < 2 ^ 74 → x ≡ q → x * lo ≤ 1000000000000 * 2 ^ 74
first q lo hi x h k l e = mul-le x lo 1000000000000 (2 ^ 74) (omega (arith, h, e)) (omega (arith, k, l))

second : (p cost x : ℕ) → p ≤ 2 ^ 74 → cost ≤ 1000000000000 → x ≡ cost → p * x ≤ 2 ^ 74 * 1000000000000
second p cost x h k e = mul-le p x (2 ^ 74) 1000000000000 h (omega (arith, k, e))

pub overflow_mul-result : goal.overflow_mul-result
overflow_mul-result c = (let h = first c.args.price.q c.args.point.now.lo c.args.point.now.hi c.from.result c.requires.price.q c.requires.range.ends c.requires.range.hi c.from.ensures in omega (arith, h))

pub overflow_mul-result-2 : goal.overflow_mul-result-2
overflow_mul-result-2 c = (let h = second c.args.price.p c.args.point.now.cost c.from-2.result c.requires.price.p c.requires.range.cost c.from-2.ensures in omega (arith, h))

pub overflow_add-result : goal.overflow_add-result
overflow_add-result c =
    let h = first c.args.price.q c.args.point.now.lo c.args.point.now.hi c.from.result c.requires.price.q c.requires.range.ends c.requires.range.hi c.from.ensures in
    let k = second c.args.price.p c.args.point.now.cost c.from-2.result c.requires.price.p c.requires.range.cost c.from-2.ensures in
    omega (arith, h, k)

pub returns-clause-small : goal.returns-clause-small
returns-clause-small c =
    let h = first c.args.price.q c.args.point.now.lo c.args.point.now.hi c.from.result c.requires.price.q c.requires.range.ends c.requires.range.hi c.from.ensures in
    let k = second c.args.price.p c.args.point.now.cost c.from-2.result c.requires.price.p c.requires.range.cost c.from-2.ensures in
    omega (arith, h, k)
