use Rattle.std.proofs.Common.{◌+◌, length, refl, sym, subst, ◌∙◌}
use Rattle.std.proofs.Common.{List, All}
use Rattle.std.proofs.lemmas.Bool.{eqb-true}
use Rattle.std.proofs.lemmas.Result.{err_from_is_err_and}
use Rattle.plan_report.specs.Fits.{FitsPlan}
use Rattle.plan_report.specs.declared.plan.PlanReport.{PlanReport}
use Rattle.case_edits.specs.Edits.{taken}
use Rattle.session_plans.specs.Following.{standing}
use Rattle.session_plans.proofs.Followed.{begun, ended, line_followed, line_refused, refused_by}
use Rattle.session_plans.proofs.Reported.{all_printed}
use Rattle.session_plans.proofs.edits.followed.Goals as goal

pub loop-rest-init : goal.loop-rest-init
loop-rest-init g c = begun c.args.session.now.case c.args.bytes.now c.args.session.now c.new-plans.result.items c.requires c.new-plans.ensures.items

pub loop-rest-preserved : goal.loop-rest-preserved
loop-rest-preserved g c =
    let h = c.loop-rest.invariant in
    line_followed c.args.session.now.case c.args.bytes.now c.loop-rest.session c.loop-rest.plans.items c.loop-rest.line c.loop-rest.rest.now c.first_line.result.0.now c.first_line.result.1.now
    h c.first_line.ensures.lines (c.loop-rest.line + 1) c.take.new.session c.take.new.plans.items refl c.in_ok-take.ensures.within (c.in_ok-take.ensures.due h.ds h.told)

pub returns-in_err-take-clause-answer : goal.returns-in_err-take-clause-answer
returns-in_err-take-clause-answer g c =
    let h = c.loop-rest.invariant in
    let p = err_from_is_err_and c.from_residual.result c.from_residual.ensures.1 in
    rw (p.1, p.2) (refused_by _ (taken (c.loop-rest.line + 1) (standing c.loop-rest.session h.ds) c.first_line.result.0.now) c.take.new.session c.take.new.plans.items c.in_err-take.field-0.0
    (λ f. line_refused c.args.session.now.case c.args.bytes.now c.loop-rest.session c.loop-rest.plans.items c.loop-rest.line c.loop-rest.rest.now c.first_line.result.0.now c.first_line.result.1.now
    h c.first_line.ensures.lines (c.loop-rest.line + 1) f refl)
    (c.in_err-take.ensures.due h.ds h.told))

pub returns-in_err-take-clause-fits : goal.returns-in_err-take-clause-fits
returns-in_err-take-clause-fits g c = let p = err_from_is_err_and c.from_residual.result c.from_residual.ensures.1 in rw p.1 tt

pub returns-clause-answer : goal.returns-clause-answer
returns-clause-answer g c =
    ended c.args.session.now.case c.args.bytes.now c.loop-rest.session c.loop-rest.plans.items c.loop-rest.line c.loop-rest.rest.now (record { plans = c.of.result })
    c.loop-rest.invariant (eqb-true (length c.loop-rest.rest.now) 0 (sym c.is_empty.ensures ∙ c.loop-rest-test.false)) c.of.ensures

pub returns-clause-fits : goal.returns-clause-fits
returns-clause-fits g c =
    let h = c.loop-rest.invariant in
    subst (λ (z : List PlanReport). All FitsPlan z) (sym c.of.ensures) (all_printed h.ds c.loop-rest.plans.items h.told)
