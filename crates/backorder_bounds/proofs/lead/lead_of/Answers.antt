use Rattle.std.proofs.Common.{◌<◌, ◌≤◌, ◌+◌, ◌-◌, ◌*◌, ◌^◌, arith, lit<, refl}
use Rattle.moment_table.specs.Profile.{excess_ends}
use Rattle.backorder_bounds.proofs.Parts.{parts_are, positive_mean}
use Rattle.backorder_bounds.proofs.lead.lead_of.Goals as goal

pub start_of-requires : goal.start_of-requires
start_of-requires g c =
    let f = g.row.F in
    let m = c.args.mean in
    let v = c.args.variance in
    let n : 46 ≤ f = omega (arith, c.if-this-lt46.false) in
    let p : 0 < m.lo = positive_mean f m c.of-near.result c.of-near.ensures.coarse (omega (arith, c.if-near-eq0.false)) in
    let i = c.in_ok-inverse.inverse in
    let both = parts_are f m v c.of-near.result i.low i.high (c.product.result + 1) (2 ^ 36 - i.low + 8 * (i.high - i.low)) c.product-2.result c.saturating_sub.result n p
    c.of-near.ensures.valid.ordered c.of.ensures.valid.ordered c.of-near.ensures.coarse
    (c.in_ok-inverse.ensures.inverse f m v n p c.of-near.ensures.valid.ordered c.of.ensures.valid.ordered c.of-near.ensures.coarse c.of.ensures.coarse)
    (omega (arith, c.product.ensures)) refl c.product-2.ensures c.saturating_sub.ensures in
    (lit< tt, (c.requires.mean_top, (c.requires.variance_top, both)))

pub returns-clause-lead : goal.returns-clause-lead
returns-clause-lead g c =
    let f = g.row.F in
    let m = c.args.mean in
    let v = c.args.variance in
    let n : 46 ≤ f = omega (arith, c.if-this-lt46.false) in
    let p : 0 < m.lo = positive_mean f m c.of-near.result c.of-near.ensures.coarse (omega (arith, c.if-near-eq0.false)) in
    let i = c.in_ok-inverse.inverse in
    let both = parts_are f m v c.of-near.result i.low i.high (c.product.result + 1) (2 ^ 36 - i.low + 8 * (i.high - i.low)) c.product-2.result c.saturating_sub.result n p
    c.of-near.ensures.valid.ordered c.of.ensures.valid.ordered c.of-near.ensures.coarse
    (c.in_ok-inverse.ensures.inverse f m v n p c.of-near.ensures.valid.ordered c.of.ensures.valid.ordered c.of-near.ensures.coarse c.of.ensures.coarse)
    (omega (arith, c.product.ensures)) refl c.product-2.ensures c.saturating_sub.ensures in
    record {
      positive = omega (arith, p, c.of-near.ensures.valid.ordered);
      mean = both.0.mean;
      excess = both.0.excess;
      start = c.in_ok-start.ensures.start.low;
      sum = c.in_ok-share.ensures.inverse f m (excess_ends f m v) both.0 c.in_ok-start.ensures.start;
      under = both.1;
    }
