use Rattle.std.proofs.Common.{◌+◌, ◌*◌, ◌<◌, subst, arith}
use Rattle.hull.specs.Curves.{InRange}
use Rattle.part_filling.proofs.Ranges.{ends_room, range_read}
use Rattle.part_filling.proofs.Widened.{wider_high, wider_low}
use Rattle.part_filling.proofs.outside.wider.Goals as goal

pub overflow_mul-here : goal.overflow_mul-here
overflow_mul-here c =
    let r : InRange c.point-here.result.now = range_read c.args.curve.now c.args.pick c.point-here.result.now c.invariant.ensures.shape c.requires.pick c.point-here.ensures in
    let h = r.hi in
    let q = c.requires.window.high_small.q in
    let e = c.from-money.ensures in
    let x = ends_room c.point-here.result.now.hi c.from-money.result (omega (arith, h)) (omega (arith, q, e)) in
    omega (arith, x)

pub overflow_mul-first : goal.overflow_mul-first
overflow_mul-first c =
    let s = c.invariant.ensures.shape.some in
    let r : InRange c.point-first.result.now = range_read c.args.curve.now 0 c.point-first.result.now c.invariant.ensures.shape (omega (arith, s)) c.point-first.ensures in
    let h = r.hi in
    let l = r.ends in
    let q = c.requires.window.high_small.q in
    let e = c.from-money.ensures in
    let x = ends_room c.point-first.result.now.lo c.from-money.result (omega (arith, h, l)) (omega (arith, q, e)) in
    omega (arith, x)

pub overflow_add-first : goal.overflow_add-first
overflow_add-first c =
    let s = c.invariant.ensures.shape.some in
    let r : InRange c.point-first.result.now = range_read c.args.curve.now 0 c.point-first.result.now c.invariant.ensures.shape (omega (arith, s)) c.point-first.ensures in
    let h = r.hi in
    let l = r.ends in
    let q = c.requires.window.high_small.q in
    let p = c.requires.window.high_small.p in
    let e = c.from-money.ensures in
    let x = ends_room c.point-first.result.now.lo c.from-money.result (omega (arith, h, l)) (omega (arith, q, e)) in
    omega (arith, x, p)

pub returns-then-here-money-clause-some : goal.returns-then-here-money-clause-some
returns-then-here-money-clause-some c =
    let r : InRange c.point-here.result.now = range_read c.args.curve.now c.args.pick c.point-here.result.now c.invariant.ensures.shape c.requires.pick c.point-here.ensures in
    let h = r.hi in
    wider_high c.args.window c.point-here.result.now.hi c.point-first.result.now.lo c.requires.window
    (subst (λ m. c.point-first.result.now.lo * m + c.args.window.high.p < c.point-here.result.now.hi * m) c.from-money.ensures c.if-here-money.true) (omega (arith, h))

pub returns-clause-some : goal.returns-clause-some
returns-clause-some c =
    let e = c.lower.ensures in
    wider_low c.args.window c.lower.result c.requires.window e.steep e.money e.small e.below e.less
