use Rattle.std.proofs.Common.{List, [], ◌∷◌, ◌++◌, map, ap, ap₂, sym, ◌∙◌}
use Rattle.std.proofs.lemmas.List.{map_more, take_all}
use Rattle.spares_input.specs.declared.rows.PartId.{PartId}
use Rattle.family_points.specs.declared.bounds.Bounds.{Bounds}
use Rattle.family_points.specs.Vectors.{box_from}
use Rattle.held_plan.proofs.sample.bounds_of.Goals as goal

pub loop-k-preserved : goal.loop-k-preserved
loop-k-preserved c =
    c.in_ok-push.ensures.items
    ∙ ap₂ (λ (bs : List Bounds) (b : Bounds). bs ++ b ∷ []) c.loop-k.invariant c.in_ok-one.ensures
    ∙ sym (map_more (λ (p : PartId). box_from c.args.case.now p.0 c.args.held.now.list) c.args.lines.now c.loop-k.k (record { 0 = 0 }) c.loop-k-test.true)

pub returns : goal.returns
returns c =
    c.loop-k.invariant
    ∙ ap (map (λ (p : PartId). box_from c.args.case.now p.0 c.args.held.now.list)) (take_all c.loop-k.k c.args.lines.now c.loop-k-test.false)
