use Rattle.std.proofs.Common.{None, replicate, ap, ◌∙◌}
use Rattle.family_items.proofs.Public.{lines_count}
use Rattle.session_plans.specs.Sessions.{IsEvaluation}
use Rattle.session_plans.proofs.Places.{none_kept}
use Rattle.session_plans.proofs.evaluated.nothing_evaluated.Goals as goal

pub returns : goal.returns
returns c =
    let d = c.args.case.now in
    record {
      is_for = c.in_ok-stocks.ensures.stocks.is_for;
      are_kept = none_kept (IsEvaluation d c.in_ok-stocks.stocks) d c.in_ok-families.families.items
          (c.in_ok-families.ensures ∙ ap (λ n. replicate n None) (lines_count d c.line_units-lines.result.now c.line_units-lines.ensures));
    }
