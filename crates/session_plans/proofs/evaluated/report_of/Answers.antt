use Rattle.std.proofs.Common.{List, Option, sym, subst, ◌∙◌}
use Rattle.family_items.specs.declared.item.FamilyResult.{FamilyResult}
use Rattle.session_plans.specs.Sessions.{AreOfFamilies, IsEvaluation}
use Rattle.session_plans.proofs.Places.{rewritten}
use Rattle.session_plans.proofs.evaluated.report_of.Goals as goal

pub returns-in-Ok-clause-kept : goal.returns-in-Ok-clause-kept
returns-in-Ok-clause-kept c =
    let x = c.evaluate_at.new.evaluated in
    record {
      is_for = c.evaluate_at.ensures.kept.is_for;
      are_kept =
          subst (λ (fs : List (Option (FamilyResult 48))). AreOfFamilies (IsEvaluation c.args.case.now x.stocks) c.args.case.now fs)
          (sym (rewritten x.families.len c.report_by.new.kept x.families.items (c.report_by.ensures.kept ∙ c.deref_mut.ensures.value) x.families.ok.0)) c.evaluate_at.ensures.kept.are_kept;
    }
