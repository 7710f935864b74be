use Rattle.std.proofs.lemmas.Result.{IfOk-weaker}
use Rattle.case_plan.proofs.planning.plan.Goals as goal

pub returns-clause-curves : goal.returns-clause-curves
returns-clause-curves c =
    IfOk-weaker c.evaluated_outcome.result _ _
    (λ outcome is. record { chosen = c.in_ok-chosen.chosen; fits = c.in_ok-chosen.ensures.fits; is_chosen = c.in_ok-chosen.ensures.chosen; is = is })
    c.evaluated_outcome.ensures.chosen

pub returns-clause-case : goal.returns-clause-case
returns-clause-case c =
    IfOk-weaker c.evaluated_outcome.result _ _ (λ outcome is. is c.args.curves.now c.in_ok-chosen.ensures.chosen) c.evaluated_outcome.ensures.case
