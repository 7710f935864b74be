use Rattle.std.proofs.Common.{◌+◌, ◌*◌, ◌<◌, sym, subst, arith}
use Rattle.list_laws.proofs.Public.{same_length}
use Rattle.family_points.proofs.Numbers.{count_most, count_step, fits_count, ordered_at}
use Rattle.family_points.proofs.vectors.count.Goals as goal

pub bounds-high-i : goal.bounds-high-i
bounds-high-i c = subst (λ n. c.loop-i.i < n) (sym (same_length c.args.low.now c.args.high.now c.requires.ordered)) c.loop-i-test.true

pub overflow_sub-high : goal.overflow_sub-high
overflow_sub-high c = ordered_at c.args.low.now c.args.high.now c.requires.ordered c.loop-i.i c.loop-i-test.true

pub overflow_mul-count : goal.overflow_mul-count
overflow_mul-count c =
    let next = count_step c.args.low.now c.args.high.now c.loop-i.i c.loop-i.count c.from.result c.requires c.loop-i-test.true c.from.ensures (record { whole = c.loop-i.invariant.0; most = c.loop-i.invariant.1 }) in
    omega (arith, fits_count c.args.low.now c.args.high.now c.loop-i.i (c.loop-i.count * (c.from.result + 1)) c.requires c.loop-i-test.true next)

pub loop-i-preserved : goal.loop-i-preserved
loop-i-preserved c =
    let next = count_step c.args.low.now c.args.high.now c.loop-i.i c.loop-i.count c.from.result c.requires c.loop-i-test.true c.from.ensures (record { whole = c.loop-i.invariant.0; most = c.loop-i.invariant.1 }) in
    (next.whole, next.most)

pub returns-clause-most : goal.returns-clause-most
returns-clause-most c = count_most c.args.low.now c.args.high.now c.loop-i.i c.loop-i.count c.requires c.loop-i.auto.i-end c.loop-i.invariant.1
