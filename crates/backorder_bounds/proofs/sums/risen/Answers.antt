use Rattle.std.proofs.Common.{◌≤◌, ◌*◌, ◌^◌, arith}
use Rattle.backorder_bounds.proofs.Reaches.{reached_first, reached_walked}
use Rattle.backorder_bounds.proofs.sums.risen.Goals as goal

pub loop-k-init : goal.loop-k-init
loop-k-init c = record {
  above = omega arith;
  small = omega (arith, c.requires.first);
  most = c.requires.high;
  sum = omega arith;
  reached = λ f m d h n. reached_first f m d c.args.start n c.requires.high;
}

pub loop-k-preserved : goal.loop-k-preserved
loop-k-preserved c =
    let most : c.next-reached.result.last ≤ 8 * 2 ^ 36 = omega (arith, c.if-reached-gt-MOST.false) in
    record {
      above = omega (arith, c.next-reached.ensures.above, c.loop-k.invariant.above);
      small = omega (arith, c.next-reached.ensures.above, c.loop-k.invariant.small, c.requires.step);
      most = most;
      sum = omega (arith, c.next-reached.ensures.sum, c.loop-k.invariant.sum, c.loop-k.invariant.most);
      reached = λ f m d h n. reached_walked f m d c.args.over c.loop-k.k c.loop-k.reached c.next-reached.result h (c.loop-k.invariant.reached f m d h n) c.loop-k.invariant.above c.next-reached.ensures.sum
          c.next-reached.ensures.last most;
    }
