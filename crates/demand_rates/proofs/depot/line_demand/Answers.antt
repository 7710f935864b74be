use Rattle.std.proofs.Common.{◌∙◌, refl, arith}
use Rattle.fleet_model.specs.Units.{sent_0j}
use Rattle.demand_rates.proofs.Sums.{grown}
use Rattle.demand_rates.proofs.depot.line_demand.Goals as goal

pub loop-k-preserved : goal.loop-k-preserved
loop-k-preserved c = record {
  value = grown (sent_0j c.args.case.now c.args.line.0) c.loop-k.k c.loop-k.sum c.line_sent-sum.result (omega arith) c.loop-k.invariant.value
      (c.line_sent-sum.ensures.value ∙ rw c.rate_row.ensures.row refl);
  small = omega (arith, c.loop-k.invariant.small, c.line_sent-sum.ensures.small);
}
