use Rattle.std.proofs.Common.{◌≤◌, ◌<◌, ◌+◌, ◌*◌, ◌/◌, ◌^◌, arith}
use Rattle.backorder_bounds.proofs.Reaches.{not_larger, reached_walked}
use Rattle.backorder_bounds.proofs.sums.inverse_of_sum.Goals as goal

pub loop-k-preserved : goal.loop-k-preserved
loop-k-preserved c =
    let k = c.loop-k.k in
    let now = c.loop-k.reached in
    let few : k < 12 = omega (arith, c.loop-k-test.true) in
    let a : now.last * (now.above / (k + 1) + 1) / 2 ^ 36 ≤ now.last + 2 ^ 11 = not_larger now.last now.above k (omega (arith, c.loop-k.invariant.last, few)) c.loop-k.invariant.ratio in
    let last : c.next-reached.result.last + 2 ^ 16 ≤ 8 * 2 ^ 36 + (k + 1) * 2 ^ 12 = omega (arith, a, c.next-reached.ensures.last, c.loop-k.invariant.last) in
    record {
      above = omega (arith, c.next-reached.ensures.above, c.loop-k.invariant.above);
      ratio = omega (arith, c.next-reached.ensures.above, c.loop-k.invariant.ratio, c.if-over-ge-UNIT.false);
      last = last;
      sum = omega (arith, c.next-reached.ensures.sum, c.loop-k.invariant.sum, c.loop-k.invariant.last, few);
      pivot = omega (arith, c.loop-k.invariant.pivot);
      few = omega (arith, few);
      reached = λ f m d h n. reached_walked f m d c.args.over k now c.next-reached.result h (c.loop-k.invariant.reached f m d h n) c.loop-k.invariant.above c.next-reached.ensures.sum
          c.next-reached.ensures.last (omega (arith, last, few));
    }
