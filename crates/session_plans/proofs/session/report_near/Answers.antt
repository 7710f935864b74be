use Rattle.std.proofs.lemmas.Result.{IfOk-weaker}
use Rattle.session_plans.specs.Settling.{values_of}
use Rattle.session_plans.proofs.Places.{all_there}
use Rattle.session_plans.proofs.Reported.{are_of_case}
use Rattle.session_plans.proofs.session.report_near.Goals as goal

pub returns-in-Ok-clause-report : goal.returns-in-Ok-clause-report
returns-in-Ok-clause-report c =
    let kept = c.args.curves.now in
    IfOk-weaker c.report_of.result _ _ (λ report told.
    told (values_of kept) (are_of_case c.args.case.now kept (values_of kept) (all_there kept c.requires.all) c.requires.curves) c.in-Ok.ensures.chosen)
    c.report_of.ensures.report
