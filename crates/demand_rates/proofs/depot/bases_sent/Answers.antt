use Rattle.std.proofs.Common.{◌∙◌, refl, arith}
use Rattle.fleet_model.specs.Units.{sent_ij}
use Rattle.demand_rates.proofs.Sums.{grown}
use Rattle.demand_rates.proofs.depot.bases_sent.Goals as goal

pub loop-k-preserved : goal.loop-k-preserved
loop-k-preserved c = record {
  value = grown (sent_ij c.args.case.now c.args.line.0 c.args.shop.0) c.loop-k.k c.loop-k.sum c.shop_sent-sum.result (omega arith) c.loop-k.invariant.value
      (c.shop_sent-sum.ensures.value ∙ rw (c.rate_row.ensures.row, c.rate_row-in-loop-k.ensures.row) refl);
  small = omega (arith, c.loop-k.invariant.small, c.shop_sent-sum.ensures.small);
}
