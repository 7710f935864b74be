use Rattle.std.proofs.lemmas.Result.{IfOk-weaker}
use Rattle.metric_compare.proofs.Pipes.{base_shop_is, base_shop_can}
use Rattle.metric_compare.proofs.shops.base_shop_at.Goals as goal

pub returns-clause-ends : goal.returns-clause-ends
returns-clause-ends c = IfOk-weaker c.backorders_at.result _ _
    (λ x h. base_shop_is c.args.inputs.now.case c.args.inputs.now.stocks.list c.args.part.0 c.args.site.0 c.pipeline-pipe.result c.share.result c.args.depot c.fed-feed.result c.base_shop-base.result x
    c.pipeline-pipe.ensures.pipeline c.share.ensures.share c.requires.depot c.fed-feed.ensures c.base_shop-base.ensures.ends h) c.backorders_at.ensures.ends

pub backorders_at-requires-clause-table : goal.backorders_at-requires-clause-table
backorders_at-requires-clause-table c = base_shop_can c.pipeline-pipe.result c.fed-feed.result c.base_shop-base.result c.pipeline-pipe.ensures.valid c.base_shop-base.ensures.ends
