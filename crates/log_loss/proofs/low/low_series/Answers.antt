use Rattle.std.proofs.Common.{◌+◌, ◌/◌, arith, sym, subst}
use Rattle.log_loss.proofs.LowEnds.{AreBelow, none_below, more_below, product_most, term_most, series_above}
use Rattle.log_loss.proofs.low.low_series.Goals as goal

pub loop-k-init : goal.loop-k-init
loop-k-init c = record {
  below = none_below c.args.share;
  power_most = omega (arith, c.requires);
  sum_most = omega arith;
}

pub loop-k-preserved : goal.loop-k-preserved
loop-k-preserved c =
    let power = c.loop-k.power in
    let k = c.loop-k.k in
    let e = c.product-power.ensures in
    let m = product_most power c.args.share c.loop-k.invariant.power_most (omega (arith, c.requires)) in
    let t = term_most power k c.loop-k.invariant.power_most in
    record {
      below = subst (λ n. AreBelow c.args.share (k + 1) n (c.loop-k.sum + power / (k + 1))) (sym e)
          (more_below c.args.share k power c.loop-k.sum c.loop-k.invariant.below);
      power_most = omega (arith, e, m);
      sum_most = omega (arith, t, c.loop-k.invariant.sum_most);
    }

pub returns-clause-low : goal.returns-clause-low
returns-clause-low c = series_above c.args.share c.loop-k.k c.loop-k.power c.loop-k.sum (omega (arith, c.loop-k.auto.k-end)) c.loop-k.invariant.below
