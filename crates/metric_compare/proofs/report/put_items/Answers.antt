use Rattle.metric_compare.specs.Texts.{compared_text}
use Rattle.std.proofs.Common.{ap}
use Rattle.list_laws.proofs.Public.{put_all, put_next}
use Rattle.metric_compare.proofs.report.put_items.Goals as goal

pub loop-item-preserved : goal.loop-item-preserved
loop-item-preserved c =
    put_next compared_text c.args.text.now.items c.args.items.now c.loop-item.item-index c.item-item.result c.loop-item.text.items c.put_item.new.text.items (compared_text c.item-item.result)
    c.loop-item-test.true c.in_ok-put_item.ensures (ap compared_text c.item-item.is) c.loop-item.invariant

pub returns : goal.returns
returns c = put_all compared_text c.args.text.now.items c.args.items.now c.loop-item.item-index c.loop-item.text.items c.loop-item-test.false c.loop-item.invariant
