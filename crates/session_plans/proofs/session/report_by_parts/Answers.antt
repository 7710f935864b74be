use Rattle.std.proofs.Common.{[], Option, IfSome, subst}
use Rattle.family_points.specs.Points.{plain_ends}
use Rattle.choice_parts.proofs.Public.{curves_of}
use Rattle.fleet_plan.specs.Families.{case_points}
use Rattle.case_plan.specs.declared.chosen.ChosenStocks.{ChosenStocks}
use Rattle.case_plan.specs.Chosen.{IsChosen}
use Rattle.session_plans.proofs.session.report_by_parts.Goals as goal

pub returns-in-Ok-clause-report : goal.returns-in-Ok-clause-report
returns-in-Ok-clause-report g c =
    let case = c.args.case.now in
    let cs = curves_of (case_points plain_ends case []) in
    c.in-Ok.ensures.report cs.0 cs.1
    (subst (λ (o : Option ChosenStocks). IfSome o (IsChosen case cs.0 c.args.budget)) c.in-Ok-Some.field-0-is (c.in-Ok-Some.ensures.chosen cs.0 cs.1))
