use Rattle.std.proofs.Common.{◌∙◌}
use Rattle.spares_input.specs.declared.rows.PartId.{PartId}
use Rattle.metric_compare.specs.Profile.{poisson_depot_feed}
use Rattle.metric_compare.proofs.Pipes.{by_ids, few_of, units_are}
use Rattle.metric_compare.proofs.lines.line_at_depot.Goals as goal

pub depot_feeds-requires-clause-units : goal.depot_feeds-requires-clause-units
depot_feeds-requires-clause-units c = units_are c.args.inputs.now.case c.args.line.0 c.args.units.now c.invariant.ensures.valid.valid c.requires.line c.requires.units

pub depot_line_at-requires-clause-few : goal.depot_line_at-requires-clause-few
depot_line_at-requires-clause-few c =
    few_of c.args.inputs.now.case c.args.line.0 (λ (p : PartId). poisson_depot_feed 48 c.args.inputs.now.case c.args.inputs.now.stocks.list p.0) c.args.units.now c.as_slice.result.now
    c.invariant.ensures.valid.valid c.requires.line c.requires.units (c.as_slice.ensures.value ∙ c.in_ok-feeds.ensures.feeds)

pub depot_line_at-requires-clause-feeds : goal.depot_line_at-requires-clause-feeds
depot_line_at-requires-clause-feeds c =
    c.as_slice.ensures.value ∙ c.in_ok-feeds.ensures.feeds
    ∙ by_ids c.args.inputs.now.case c.args.line.0 (poisson_depot_feed 48 c.args.inputs.now.case c.args.inputs.now.stocks.list) c.args.units.now c.requires.units
