use Rattle.std.proofs.Common.{ap, subst, sym, ◌∙◌}
use Rattle.case_edits.specs.Edits.{session_of}
use Rattle.session_plans.specs.Answers.{AnswersEdits}
use Rattle.session_plans.specs.Sessions.{started, SessionRows}
use Rattle.session_plans.proofs.edits.run_edits_by.Goals as goal

pub followed-requires : goal.followed-requires
followed-requires g c = c.in-Ok.ensures ∙ ap (λ (s : SessionRows). started s.case 0) (sym c.in-Ok.ensures)

pub returns-in-Ok-clause-answer : goal.returns-in-Ok-clause-answer
returns-in-Ok-clause-answer g c =
    subst (λ (s : SessionRows). AnswersEdits (session_of s.case c.args.bytes.now) c.followed.result) c.in-Ok.ensures c.followed.ensures.answer
