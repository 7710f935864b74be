use Rattle.std.proofs.Common.{◌≡◌, [], ◌∷◌, ◌++◌, List, get_or, lit<, map, sym, ap, ap₂, ◌∙◌, subst}
use Rattle.std.proofs.lemmas.List.{map_more, take_all}
use Rattle.spares_input.specs.declared.rows.PartId.{PartId}
use Rattle.family_items.specs.declared.item.FamilyResult.{FamilyResult}
use Rattle.family_items.specs.Profile.{families_of, family_of}
use Rattle.family_items.specs.Inputs.{IsLine, InputRows}
use Rattle.family_items.proofs.Public.{each_listed, evaluable, families_in, families_small, listed_is_line}
use Rattle.family_eval.proofs.evaluate_all.Goals as goal

pub evaluate_family-requires : goal.evaluate_family-requires
evaluate_family-requires g c =
    let lines = c.line_units-lines.result.now in
    let i = c.loop-line.line-index in (
      lit< tt,
      (
        c.requires.inputs.scale,
        subst (λ (x : InputRows). IsLine x.case (get_or lines i (record { 0 = 0 })).0) (sym c.of-inputs.ensures)
            (listed_is_line c.args.case.now lines c.line_units-lines.ensures i (record { 0 = 0 }) c.loop-line-test.true),
      ),
    )

pub loop-line-preserved : goal.loop-line-preserved
loop-line-preserved g c =
    let lines = c.line_units-lines.result.now in
    let i = c.loop-line.line-index in
    let own : PartId → FamilyResult g.row.F = λ p. family_of g.row.F c.args.case.now p.0 c.args.stocks.now in
    c.in_ok-push.ensures.items
    ∙ ap₂ (λ (xs : List (FamilyResult g.row.F)) (x : FamilyResult g.row.F). xs ++ x ∷ []) c.loop-line.invariant
    (c.in_ok-evaluate_family.ensures ∙ ap (λ (x : InputRows). family_of g.row.F x.case (get_or lines i (record { 0 = 0 })).0 x.stocks) c.of-inputs.ensures)
    ∙ sym (map_more own lines i (record { 0 = 0 }) c.loop-line-test.true)

pub returns : goal.returns
returns g c =
    let sound = evaluable g.row.F c.args.case.now c.args.stocks.now c.requires.inputs in
    let own : PartId → FamilyResult g.row.F = λ p. family_of g.row.F c.args.case.now p.0 c.args.stocks.now in
    let ends : c.loop-line.families.items ≡ families_of g.row.F c.args.case.now c.args.stocks.now =
    c.loop-line.invariant ∙ ap (map own) (take_all c.loop-line.line-index c.line_units-lines.result.now c.loop-line-test.false)
    ∙ each_listed c.args.case.now c.line_units-lines.result.now c.line_units-lines.ensures (λ l. family_of g.row.F c.args.case.now l c.args.stocks.now) in
    record {
      ends = ends;
      encloses = families_in g.row.F c.args.case.now c.args.stocks.now c.loop-line.families.items c.requires.inputs.scale.0 sound ends;
      small = families_small g.row.F c.args.case.now c.args.stocks.now c.loop-line.families.items c.requires.inputs.scale.0 sound ends;
    }
