use Rattle.std.proofs.Common.{ap}
use Rattle.list_laws.proofs.Public.{put_all, put_next}
use Rattle.plan_report.specs.Texts.{base_text}
use Rattle.plan_report.proofs.text.put_bases.Goals as goal

pub loop-base-preserved : goal.loop-base-preserved
loop-base-preserved c =
    put_next base_text c.args.text.now.items c.args.bases.now c.loop-base.base-index c.base-item.result c.loop-base.text.items c.put_base.new.text.items
    (base_text c.base-item.result) c.loop-base-test.true c.in_ok-put_base.ensures (ap base_text c.base-item.is) c.loop-base.invariant

pub returns : goal.returns
returns c =
    put_all base_text c.args.text.now.items c.args.bases.now c.loop-base.base-index c.loop-base.text.items c.loop-base-test.false c.loop-base.invariant
