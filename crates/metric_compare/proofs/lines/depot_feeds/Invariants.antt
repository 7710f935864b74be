use Rattle.std.proofs.Common.{◌≡◌, map, take, All}
use Rattle.depot_pipeline.specs.Exact.{IsSmallFeed}
use Rattle.spares_input.specs.declared.rows.PartId.{PartId}
use Rattle.metric_compare.specs.Profile.{poisson_depot_feed}
use Rattle.metric_compare.proofs.lines.depot_feeds.Given as goal

abbrev pub invariant-loop-unit : goal.invariant-loop-unit
invariant-loop-unit l = record {
  feeds : l.feeds.items ≡ map (λ (p : PartId). poisson_depot_feed 48 l.fn.inputs.case l.fn.inputs.stocks.list p.0) (take l.unit-index l.fn.units);
  small : All (IsSmallFeed 48) l.feeds.items;
}
