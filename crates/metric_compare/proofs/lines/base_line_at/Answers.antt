use Rattle.std.proofs.lemmas.Result.{IfOk-weaker}
use Rattle.metric_compare.proofs.Pipes.{base_line_can, base_line_is}
use Rattle.metric_compare.proofs.lines.base_line_at.Goals as goal

pub backorders_at-requires-clause-table : goal.backorders_at-requires-clause-table
backorders_at-requires-clause-table c =
    base_line_can c.pipeline-pipe.result c.fed-feed.result c.args.delays.now c.base_line-base.result c.pipeline-pipe.ensures.valid c.base_line-base.ensures.ends

pub returns-clause-ends : goal.returns-clause-ends
returns-clause-ends c = IfOk-weaker c.backorders_at.result _ _
    (λ x h. base_line_is c.args.inputs.now.case c.args.inputs.now.stocks.list c.args.line.0 c.args.site.0 c.pipeline-pipe.result c.share.result c.args.depot c.fed-feed.result c.args.delays.now c.base_line-base.result x
    c.pipeline-pipe.ensures.pipeline c.share.ensures.share c.requires.depot c.fed-feed.ensures c.requires.delay c.base_line-base.ensures.ends h) c.backorders_at.ensures.ends
