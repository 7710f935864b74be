use Rattle.budget_sweep.specs.Texts.{point_text}
use Rattle.std.proofs.Common.{refl}
use Rattle.list_laws.proofs.Public.{put_all, put_next}
use Rattle.budget_sweep.proofs.texts.put_points.Goals as goal

pub loop-point-preserved : goal.loop-point-preserved
loop-point-preserved c =
    put_next point_text c.args.text.now.items c.args.points.now c.loop-point.point-index _ c.loop-point.text.items c.put_point.new.text.items _
    c.loop-point-test.true c.in_ok-put_point.ensures refl c.loop-point.invariant

pub returns : goal.returns
returns c = put_all point_text c.args.text.now.items c.args.points.now c.loop-point.point-index c.loop-point.text.items c.loop-point-test.false c.loop-point.invariant
