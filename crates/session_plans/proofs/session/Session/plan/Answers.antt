use Rattle.std.proofs.Common.{Err, subst}
use Rattle.std.proofs.lemmas.Result.{err_from_is_err_and}
use Rattle.session_plans.specs.Sessions.{due, AnswersPlan, SessionRows}
use Rattle.session_plans.proofs.Reported.{unrated}
use Rattle.session_plans.proofs.session.Session.plan.Goals as goal

pub returns-in_err-rates-clause-answer : goal.returns-in_err-rates-clause-answer
returns-in_err-rates-clause-answer c =
    let p = err_from_is_err_and c.from_residual.result c.from_residual.ensures.1 in
    rw (p.1, p.2) (subst (λ (s : SessionRows). AnswersPlan (due s) (Err c.in_err-rates.field-0.0)) c.self.view_is (unrated (record { case = c.self.inside.case; budget = c.self.inside.budget }) _ c.in_err-rates.ensures.answer))

pub returns-in_err-rates-clause-marks : goal.returns-in_err-rates-clause-marks
returns-in_err-rates-clause-marks c = let p = err_from_is_err_and c.from_residual.result c.from_residual.ensures.1 in rw p.1 tt
