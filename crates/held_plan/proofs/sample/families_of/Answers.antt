use Rattle.std.proofs.Common.{List, [], ◌∷◌, ◌++◌, get_or, map, sym, ap, ap₂, ◌∙◌}
use Rattle.std.proofs.lemmas.List.{get_or-map, map_more, take_all}
use Rattle.spares_input.specs.declared.rows.PartId.{PartId}
use Rattle.family_points.specs.declared.bounds.Bounds.{Bounds}
use Rattle.family_points.specs.Inputs.{FamilyBox}
use Rattle.family_points.specs.Vectors.{box_from}
use Rattle.held_work.proofs.Public.{box_ordered}
use Rattle.held_plan.specs.Held.{HeldCase, held_box}
use Rattle.held_plan.proofs.sample.families_of.Goals as goal

pub of-family-requires-clause-ordered : goal.of-family-requires-clause-ordered
of-family-requires-clause-ordered c =
    let case = c.args.case.now in
    let lines = c.args.lines.now in
    let k = c.loop-k.k in
    let line = get_or lines k (record { 0 = 0 }) in
    let b : Bounds = c.index-bounds-k.result in
    let is = c.index-bounds-k.is ∙ ap (λ bs. get_or bs k b) c.requires.bounds
    ∙ get_or-map (λ (p : PartId). box_from case p.0 c.args.held.now.list) lines k (record { 0 = 0 }) b c.loop-k-test.true in
    box_ordered case line.0 c.args.held.now b is c.invariant.ensures.valid (c.requires.lines k (record { 0 = 0 }) c.loop-k-test.true) c.requires.held

pub loop-k-preserved : goal.loop-k-preserved
loop-k-preserved c =
    let x : HeldCase = record { case = c.args.case.now; rates = c.args.rates.now; held = c.args.held.now } in
    let lines = c.args.lines.now in
    let k = c.loop-k.k in
    let line = get_or lines k (record { 0 = 0 }) in
    let b : Bounds = c.index-bounds-k.result in
    let is = c.index-bounds-k.is ∙ ap (λ bs. get_or bs k b) c.requires.bounds
    ∙ get_or-map (λ (p : PartId). box_from x.case p.0 x.held.list) lines k (record { 0 = 0 }) b c.loop-k-test.true in
    c.in_ok-push.ensures.items
    ∙ ap₂ (λ (fs : List FamilyBox) (f : FamilyBox). fs ++ f ∷ []) c.loop-k.invariant
    (c.of-family.ensures
    ∙ ap (λ (y : Bounds). record { case = x.case; rates = x.rates; line = line.0; held = y.held; low = y.low; high = y.high }) is)
    ∙ sym (map_more (λ (p : PartId). held_box x p.0) lines k (record { 0 = 0 }) c.loop-k-test.true)

pub returns : goal.returns
returns c =
    let x : HeldCase = record { case = c.args.case.now; rates = c.args.rates.now; held = c.args.held.now } in
    c.loop-k.invariant ∙ ap (map (λ (p : PartId). held_box x p.0)) (take_all c.loop-k.k c.args.lines.now c.loop-k-test.false)
