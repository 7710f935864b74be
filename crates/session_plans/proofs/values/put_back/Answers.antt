use Rattle.std.proofs.Common.{arith, ◌∙◌}
use Rattle.session_plans.proofs.Places.{put_next, put_none}
use Rattle.session_plans.proofs.values.put_back.Goals as goal

pub loop-value-init : goal.loop-value-init
loop-value-init g c = record { moved = put_none c.args.values.items c.args.kept.now c.requires; within = omega (arith, c.requires) }

pub loop-value-preserved-in-Some : goal.loop-value-preserved-in-Some
loop-value-preserved-in-Some g c =
    let here = c.loop-value.invariant in
    let put = put_next c.loop-value.values.items c.pop.new.self.items c.in-Some.value c.loop-value.kept _ c.len.result here.moved here.within c.in-Some.ensures.items
    (c.len.ensures ∙ c.pop.new.self.ok.0) in
    record { moved = put.0; within = put.1 }

pub loop-value-preserved : goal.loop-value-preserved
loop-value-preserved g c =
    let here = c.loop-value.invariant in
    let put = put_next c.loop-value.values.items c.pop.new.self.items c.in-Some.value c.loop-value.kept _ c.len.result here.moved here.within c.in-Some.ensures.items
    (c.len.ensures ∙ c.pop.new.self.ok.0) in
    record { moved = put.0; within = put.1 }
