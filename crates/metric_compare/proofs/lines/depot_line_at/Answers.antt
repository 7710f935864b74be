use Rattle.std.proofs.lemmas.Result.{IfOk-weaker}
use Rattle.metric_compare.proofs.Pipes.{depot_line_can, depot_line_is}
use Rattle.metric_compare.proofs.lines.depot_line_at.Goals as goal

pub backorders_at-requires-clause-table : goal.backorders_at-requires-clause-table
backorders_at-requires-clause-table c =
    depot_line_can c.pipeline-pipe.result c.args.feeds.now c.depot_line-depot.result c.pipeline-pipe.ensures.valid c.depot_line-depot.ensures.ends

pub returns-clause-ends : goal.returns-clause-ends
returns-clause-ends c = IfOk-weaker c.backorders_at.result _ _
    (λ x h. depot_line_is c.args.inputs.now.case c.args.inputs.now.stocks.list c.args.line.0 c.pipeline-pipe.result c.args.feeds.now c.depot_line-depot.result x c.pipeline-pipe.ensures.pipeline c.requires.feeds c.depot_line-depot.ensures.ends h) c.backorders_at.ensures.ends
