use Rattle.session_plans.proofs.Reported.{reported_by}
use Rattle.session_plans.proofs.evaluated.report_by.Goals as goal

pub returns-in-Ok-clause-report : goal.returns-in-Ok-clause-report
returns-in-Ok-clause-report c = λ curves are chosen.
    reported_by c.args.case.now curves c.args.budget c.in-Ok.outcome (record { valid = c.invariant.ensures.valid; no_fault = c.requires.rates }) are
    (c.in-Ok.ensures.case curves chosen)
