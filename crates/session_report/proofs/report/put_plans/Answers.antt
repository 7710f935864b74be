use Rattle.std.proofs.Common.{◌++◌, refl, sym, ap, ◌∙◌, append-nil, take}
use Rattle.std.proofs.lemmas.List.{flat_map_more, get_or_read, take_more}
use Rattle.std.specs.List.{flat_map}
use Rattle.plan_report.specs.Texts.{plan_text}
use Rattle.session_report.proofs.report.put_plans.Goals as goal

pub loop-plan-init : goal.loop-plan-init
loop-plan-init c = sym (append-nil c.args.text.now.items)

pub put_text-requires : goal.put_text-requires
put_text-requires c = rw c.plan-item.is (c.requires c.loop-plan.plan-index c.plan-item.result c.loop-plan-test.true)

pub loop-plan-preserved : goal.loop-plan-preserved
loop-plan-preserved c =
    let plans = c.args.plans.now in
    let i = c.loop-plan.plan-index in
    let plan = c.plan-item.result in
    let row = get_or_read plans i plan c.loop-plan-test.true c.plan-item.is plan in
    c.in_ok-put_text.ensures ∙ ap (λ text. text ++ plan_text plan) c.loop-plan.invariant
    ∙ flat_map_more plan_text c.args.text.now.items (take i plans) plan
    ∙ ap (λ some. c.args.text.now.items ++ flat_map plan_text some) (sym (take_more plans i plan c.loop-plan-test.true ∙ rw (← row) refl))
