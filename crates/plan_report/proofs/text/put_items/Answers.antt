use Rattle.std.proofs.Common.{ap, ◌∙◌, arith}
use Rattle.list_laws.proofs.Public.{put_all, put_next}
use Rattle.case_figures.specs.Shows.{no_item_line}
use Rattle.plan_report.specs.Texts.{item_text}
use Rattle.plan_report.proofs.text.put_items.Goals as goal

pub loop-n-preserved : goal.loop-n-preserved
loop-n-preserved c =
    put_next item_text c.args.text.now.items c.args.items.now c.loop-n.n no_item_line c.loop-n.text.items c.extend_from_slice.new.self.items c.as_slice.result.now
    (omega (arith, c.loop-n-test.true, c.len-n-end.ensures)) c.in_ok-extend_from_slice.ensures.items
    (c.as_slice.ensures ∙ c.put_item.ensures ∙ ap item_text c.compact.ensures.line) c.loop-n.invariant

pub returns : goal.returns
returns c =
    put_all item_text c.args.text.now.items c.args.items.now c.loop-n.n c.loop-n.text.items (omega (arith, c.loop-n-test.false, c.len-n-end.ensures)) c.loop-n.invariant
