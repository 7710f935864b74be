use Rattle.std.proofs.Common.{◌∙◌, arith}
use Rattle.list_laws.proofs.Public.{mapped_more}
use Rattle.family_items.specs.Profile.{item_of}
use Rattle.family_items.proofs.Public.{base_shop_item}
use Rattle.family_eval.proofs.shops.shop_items.Goals as goal

pub loop-j-preserved : goal.loop-j-preserved
loop-j-preserved g c =
    mapped_more (item_of g.row.F c.args.inputs.now.case c.args.inputs.now.stocks.list c.args.part.0) c.loop-j.j c.loop-j.items.items c.push-in-loop-j.new.self.items c.in_ok-item.item
    c.in_ok-push-2.ensures.items c.loop-j.invariant
    (c.in_ok-item.ensures ∙ base_shop_item g.row.F c.args.inputs.now.case c.args.inputs.now.stocks.list c.requires.shop.line c.args.part.0 c.loop-j.j c.requires.shop.is_shop.line_is
    (omega (arith, c.loop-j.auto.j)))
