use Rattle.std.proofs.Common.{List, IfOk, Result, Ok, Err, sym, subst}
use Rattle.hull.specs.declared.point.Point.{Point}
use Rattle.spares_input.specs.Cases.{CaseRows}
use Rattle.marginal_alloc.specs.Choice.{AreCurves}
use Rattle.fleet_plan.specs.Families.{case_points}
use Rattle.case_plan.specs.Report.{AreFamilyCurves, IsOutcome, IsPlanOf}
use Rattle.case_plan.proofs.Public.{are_curves, are_family_curves}
use Rattle.held_plan.proofs.plan.plan_by_curves.Goals as goal

pub plan-requires-clause-curves : goal.plan-requires-clause-curves
plan-requires-clause-curves g c =
    let x = c.args.families.now in
    subst (λ (z : CaseRows). AreFamilyCurves z c.as_slice.result.now) (sym c.case-case.ensures.case)
    (subst (λ (z : List (List Point)). AreFamilyCurves x.case z) (sym c.as_slice.ensures.value)
    (are_family_curves g.S.Score.ends x.case x.held.list c.in_ok-curves.curves.items c.in_ok-curves.ensures))

if_ok : {T E : Type 0} (P Q : T → Type 0) (r : Result T E) → ((x : T) → P x → Q x) → IfOk r P → IfOk r Q
if_ok P Q (Ok x) h a = h x a
if_ok P Q (Err e) h a = tt

pub returns : goal.returns
returns g c =
    let ends = g.S.Score.ends in
    let x = c.args.families.now in
    let request = c.args.request in
    let curves = subst (λ (z : List (List Point)). AreCurves (case_points ends x.case x.held.list) z) (sym c.as_slice.ensures.value)
    (are_curves ends x.case x.held.list c.in_ok-curves.curves.items c.in_ok-curves.ensures) in
    if_ok (IsPlanOf c.case-case.result.now c.as_slice.result.now request) (IsOutcome ends x.case x.held.list request) c.plan.result
    (λ o h. subst (λ (z : CaseRows). IsOutcome ends z x.held.list request o) c.case-case.ensures.case
    (h ends x.held.list (subst (λ (z : CaseRows). AreCurves (case_points ends z x.held.list) c.as_slice.result.now) (sym c.case-case.ensures.case) curves)))
    c.plan.ensures.case
