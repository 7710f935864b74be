use Rattle.std.proofs.Common.{None, replicate, ap, ◌∙◌}
use Rattle.std.proofs.lemmas.Result.{IfOk-weaker}
use Rattle.family_items.proofs.Public.{lines_count}
use Rattle.session_plans.proofs.kept.nothing_kept.Goals as goal

pub returns : goal.returns
returns c =
    IfOk-weaker c.no_values.result _ _ (λ curves e. e ∙ ap (λ n. replicate n None) (lines_count c.args.case.now c.line_units-lines.result.now c.line_units-lines.ensures)) c.no_values.ensures
