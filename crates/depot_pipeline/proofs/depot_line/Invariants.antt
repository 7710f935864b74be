use Rattle.depot_pipeline.specs.Profile.{mean_part, variance_part, feed_at}
use Rattle.depot_pipeline.proofs.Walk.{Summed}
use Rattle.depot_pipeline.proofs.depot_line.Given as goal

abbrev pub invariant-loop-feed : goal.invariant-loop-feed
invariant-loop-feed g l = record {
  mean : Summed g.row.F 512 l.fn.direct (λ k. mean_part g.row.F (feed_at l.fn.feeds k)) l.mean l.feed-index;
  variance : Summed g.row.F 512 l.fn.direct (λ k. variance_part g.row.F (feed_at l.fn.feeds k)) l.variance l.feed-index;
}
