use Rattle.fixed_interval.specs.Ends.{ends_add}
use Rattle.depot_pipeline.specs.Profile.{mean_part, variance_part}
use Rattle.depot_pipeline.proofs.Public.{Summed}
use Rattle.base_pipeline.specs.Profile.{delay_at}
use Rattle.base_pipeline.proofs.base_line.Given as goal

abbrev pub invariant-loop-shop : goal.invariant-loop-shop
invariant-loop-shop g l = record {
  mean : Summed g.row.F 768 (ends_add l.fn.direct (mean_part g.row.F l.fn.depot)) (λ k. (delay_at l.fn.shops k).backorders) l.mean l.shop-index;
  variance : Summed g.row.F 768 (ends_add l.fn.direct (variance_part g.row.F l.fn.depot)) (λ k. (delay_at l.fn.shops k).spread) l.variance l.shop-index;
}
