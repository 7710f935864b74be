use Rattle.std.proofs.lemmas.Result.{IfOk-weaker}
use Rattle.family_items.proofs.Public.{depot_shop_is}
use Rattle.family_eval.proofs.shops.depot_shop_at.Goals as goal

pub returns : goal.returns
returns g c = IfOk-weaker c.depot_shop_item.result _ _
    (λ x h. depot_shop_is g.row.F c.args.inputs.now.case c.args.inputs.now.stocks.list c.args.part.0 c.pipeline.result x c.pipeline.ensures.pipeline h) c.depot_shop_item.ensures
