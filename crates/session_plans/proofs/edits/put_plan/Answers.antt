use Rattle.std.proofs.Common.{arith}
use Rattle.demand_rates.specs.Limits.{rate_fault_of}
use Rattle.session_plans.proofs.Followed.{plan_followed, plan_refused, too_many}
use Rattle.session_plans.proofs.edits.put_plan.Goals as goal

pub returns-then-len-ge-MOST_PLANS : goal.returns-then-len-ge-MOST_PLANS
returns-then-len-ge-MOST_PLANS g c = λ ds told.
    let n = c.len.ensures in
    too_many c.args.line c.args.session.now ds c.args.plans.now.items (rate_fault_of c.args.session.now.case) told (omega (arith, n, c.if-len-ge-MOST_PLANS.true))

pub returns-in_ok-push-in-Ok : goal.returns-in_ok-push-in-Ok
returns-in_ok-push-in-Ok g c = λ ds told.
    let n = c.len.ensures in
    plan_followed c.args.line c.args.session.now ds c.args.plans.now.items told (omega (arith, n, c.if-len-ge-MOST_PLANS.false))
    c.report.new.self c.in-Ok.report c.push.new.self.items c.in-Ok.ensures.answer c.report.ensures.later c.in_ok-push-in-Ok.ensures.items

pub returns-in-Err-Fault : goal.returns-in-Err-Fault
returns-in-Err-Fault g c = λ ds told.
    let n = c.len.ensures in
    plan_refused c.args.line c.args.session.now ds c.args.plans.now.items told (omega (arith, n, c.if-len-ge-MOST_PLANS.false))
    c.in-Err-Fault.fault (rw c.in-Err-Fault.field-0-is at c.in-Err-Fault.ensures.answer)
