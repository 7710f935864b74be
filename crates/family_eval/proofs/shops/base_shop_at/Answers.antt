use Rattle.std.proofs.Common.{lit<, subst, sym}
use Rattle.std.proofs.lemmas.Result.{IfOk-weaker}
use Rattle.family_items.specs.Encloses.{IsSmallItem}
use Rattle.family_items.proofs.Public.{small_i0, base_shop_is, feed_small}
use Rattle.family_eval.proofs.shops.base_shop_at.Goals as goal

pub base_shop_item-requires : goal.base_shop_item-requires
base_shop_item-requires g c =
    let small = subst (IsSmallItem g.row.F) (sym c.requires.depot)
    (small_i0 g.row.F c.args.inputs.now.case c.args.inputs.now.stocks.list c.requires.scale.0 c.invariant.ensures.valid c.args.part.0 c.requires.part) in
    (lit< tt, (lit< tt, (lit< tt, (c.pipeline.ensures.valid, feed_small g.row.F c.share.result c.args.depot.now c.feed_of-feed.result c.feed_of-feed.ensures c.share.ensures.most small))))

pub returns : goal.returns
returns g c = IfOk-weaker c.base_shop_item.result _ _
    (λ x h. base_shop_is g.row.F c.args.inputs.now.case c.args.inputs.now.stocks.list c.args.part.0 c.args.site.0 c.pipeline.result c.feed_of-feed.result c.share.result c.args.depot.now x
    c.pipeline.ensures.pipeline c.feed_of-feed.ensures c.share.ensures.share c.requires.depot h) c.base_shop_item.ensures
