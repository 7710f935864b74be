use Rattle.std.proofs.lemmas.Result.{IfOk-weaker}
use Rattle.metric_compare.proofs.Pipes.{depot_shop_is, depot_shop_can}
use Rattle.metric_compare.proofs.shops.depot_shop_at.Goals as goal

pub returns-clause-ends : goal.returns-clause-ends
returns-clause-ends c = IfOk-weaker c.backorders_at.result _ _
    (λ x h. depot_shop_is c.args.inputs.now.case c.args.inputs.now.stocks.list c.args.part.0 c.pipeline-pipe.result c.depot_shop-depot.result x c.pipeline-pipe.ensures.pipeline c.depot_shop-depot.ensures.ends h) c.backorders_at.ensures.ends

pub backorders_at-requires-clause-table : goal.backorders_at-requires-clause-table
backorders_at-requires-clause-table c = depot_shop_can c.pipeline-pipe.result c.depot_shop-depot.result c.pipeline-pipe.ensures.valid c.depot_shop-depot.ensures.ends
