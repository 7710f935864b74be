use Rattle.std.proofs.Common.{List, [], ◌∷◌, ◌++◌, map, sym, ap, ap₂, ◌∙◌, subst}
use Rattle.std.specs.List.{All}
use Rattle.std.proofs.lemmas.List.{map_push, take_all, take_more}
use Rattle.std.proofs.lemmas.List.Elements.{All-push}
use Rattle.family_points.specs.Inputs.{FamilyBox}
use Rattle.family_rows.specs.Sources.{AreSources}
use Rattle.family_rows.specs.declared.sources.Sources.{Sources}
use Rattle.held_plan.proofs.sample.sources_of.Goals as goal

pub loop-k-preserved : goal.loop-k-preserved
loop-k-preserved c = record {
  are = subst (All AreSources) (sym c.in_ok-push.ensures.items) (All-push AreSources c.loop-k.sources.items _ c.loop-k.invariant.are c.in_ok-source.ensures.are);
  families =
      ap (map (λ (s : Sources). s.family.now)) c.in_ok-push.ensures.items ∙ map_push (λ (s : Sources). s.family.now) c.loop-k.sources.items c.in_ok-source.source
      ∙ ap₂ (λ (fs : List FamilyBox) (f : FamilyBox). fs ++ f ∷ []) c.loop-k.invariant.families (c.in_ok-source.ensures.family ∙ c.index-families-k.is)
      ∙ sym (take_more c.args.families.now c.loop-k.k _ c.loop-k-test.true);
}

pub returns-clause-families : goal.returns-clause-families
returns-clause-families c = c.loop-k.invariant.families ∙ take_all c.loop-k.k c.args.families.now c.loop-k-test.false
