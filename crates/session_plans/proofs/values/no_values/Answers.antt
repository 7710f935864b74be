use Rattle.std.proofs.Common.{◌++◌, ◌∷◌, [], List, None, Option, ap, arith, replicate, ◌∙◌}
use Rattle.std.proofs.lemmas.List.{replicate-append-replicate}
use Rattle.std.proofs.lemmas.Result.{err_from_is_err_and}
use Rattle.session_plans.proofs.values.no_values.Goals as goal

pub loop-k-init : goal.loop-k-init
loop-k-init g c = c.new-kept.ensures.items

pub returns-in_err-push : goal.returns-in_err-push
returns-in_err-push g c = let p = err_from_is_err_and c.from_residual.result c.from_residual.ensures.1 in rw p.1 tt

pub loop-k-preserved : goal.loop-k-preserved
loop-k-preserved g c =
    c.in_ok-push.ensures.items ∙ ap (λ (os : List (Option g.row.T.Denot)). os ++ None ∷ []) c.loop-k.invariant ∙ replicate-append-replicate c.loop-k._k 1 None

pub returns : goal.returns
returns g c = c.loop-k.invariant ∙ ap (λ n. replicate n None) (omega (arith, c.loop-k-test.false, c.loop-k.auto._k-end))
