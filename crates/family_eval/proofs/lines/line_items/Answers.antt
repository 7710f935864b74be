use Rattle.std.proofs.Common.{◌∙◌, arith}
use Rattle.list_laws.proofs.Public.{mapped_more}
use Rattle.family_items.specs.Profile.{item_of}
use Rattle.family_items.proofs.Public.{base_line_item}
use Rattle.family_eval.proofs.lines.line_items.Goals as goal

pub loop-j-preserved : goal.loop-j-preserved
loop-j-preserved g c =
    mapped_more (item_of g.row.F c.args.inputs.now.case c.args.inputs.now.stocks.list c.args.line.0) c.loop-j.j c.loop-j.row.items c.push-in-loop-j.new.self.items c.in_ok-item.item
    c.in_ok-push-2.ensures.items c.loop-j.invariant
    (c.in_ok-item.ensures ∙ base_line_item g.row.F c.args.inputs.now.case c.args.inputs.now.stocks.list c.args.line.0 c.loop-j.j c.requires.line (omega (arith, c.loop-j.auto.j)))
