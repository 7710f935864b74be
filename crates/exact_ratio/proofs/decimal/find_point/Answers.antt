use Rattle.std.proofs.Common.{◌≡◌, arith, length}
use Rattle.exact_ratio.proofs.Reading.{point_is}
use Rattle.exact_ratio.proofs.decimal.find_point.Goals as goal

pub returns-then-c-eq46-clause-place : goal.returns-then-c-eq46-clause-place
returns-then-c-eq46-clause-place c =
    point_is c.args.text.now c.loop-i.i (omega arith) c.loop-i.invariant (λ b. c.if-c-eq46.true)

pub returns-clause-place : goal.returns-clause-place
returns-clause-place c =
    let e : c.loop-i.i ≡ length c.args.text.now = omega arith in
    point_is c.args.text.now (length c.args.text.now) (omega arith) (λ k b. c.loop-i.invariant k (omega (arith, e, b))) (λ b. absurd (omega (arith, b)))
