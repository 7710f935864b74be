use Rattle.std.proofs.Common.{◌∙◌}
use Rattle.metric_compare.proofs.Pipes.{nothing_row}
use Rattle.metric_compare.proofs.shops.nothing_row.Goals as goal

pub returns : goal.returns
returns c =
    c.in_ok-row.ensures.items_if_clones_equal (λ y h. h)
    ∙ nothing_row c.args.inputs.now.case c.args.inputs.now.stocks.list c.args.line.0 c.from.result c.exact.result c.requires c.exact.ensures.ends (c.from.ensures ∙ c.sites.ensures.count)
