use Rattle.std.proofs.Common.{◌≤◌, ◌<◌, ◌+◌, ◌-◌, ◌*◌, ◌/◌, ◌^◌, arith, lit<, le_trans, mul-le-mul_left, mul-le-mul_right}
use Rattle.std.proofs.Math.Nat.{div-mul-le_self, lt-mul-div-succ}
use Rattle.backorder_bounds.proofs.Reaches.{reached_closed}
use Rattle.backorder_bounds.proofs.sums.Reached.closed.Goals as goal

pub returns-clause-inverse : goal.returns-clause-inverse
returns-clause-inverse c f m d over es ea p h n =
    let q = c.max-bound.result in
    let g = 2 ^ 36 - q in
    let den = c.product.result + c.args.self.last + 3 in
    let a : c.args.self.above < (c.args.k + 1) * (c.args.self.above / (c.args.k + 1) + 1) = lt-mul-div-succ c.args.self.above (omega arith) in
    let r : c.args.self.above / (c.args.k + 1) + 1 ≤ q = omega (arith, c.max-bound.ensures, c.few_quotient.ensures) in
    let b : (c.args.k + 1) * (c.args.self.above / (c.args.k + 1) + 1) ≤ (c.args.k + 1) * q = mul-le-mul_left (c.args.k + 1) r in
    let e : c.args.self.sum * g < 2 ^ 36 * (c.args.self.sum * g / 2 ^ 36 + 1) = lt-mul-div-succ (c.args.self.sum * g) (lit< tt) in
    let i : g * 2 ^ 36 / den * den ≤ g * 2 ^ 36 = div-mul-le_self (g * 2 ^ 36) den in
    let j : c.share.result * den ≤ g * 2 ^ 36 / den * den = mul-le-mul_right den (omega (arith, c.share.ensures)) in
    reached_closed f m d over c.args.k q c.args.self.sum c.args.self.last den c.share.result p (omega (arith, c.requires.index)) h n (omega (arith, ea, a, b)) (omega (arith, es, c.max-bound.ensures))
    (omega (arith, c.if-bound-ge-UNIT.false)) (omega (arith, e, c.product.ensures)) (le_trans j i)
