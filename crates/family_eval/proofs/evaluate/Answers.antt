use Rattle.std.proofs.Common.{ap, ◌∙◌, subst, sym}
use Rattle.std.proofs.lemmas.Result.{IfOk-weaker}
use Rattle.family_items.specs.Profile.{family_of}
use Rattle.family_items.specs.Encloses.{EnclosesFamily, IsSmallFamily}
use Rattle.family_items.specs.Inputs.{InputRows}
use Rattle.family_items.proofs.Public.{evaluable, family_in, family_small}
use Rattle.family_eval.proofs.evaluate.Goals as goal

pub returns-clause-encloses : goal.returns-clause-encloses
returns-clause-encloses g c =
    let sound = evaluable g.row.F c.args.case.now c.args.stocks.now c.requires.inputs in
    IfOk-weaker c.evaluate_family.result _ _
    (λ r h. subst (EnclosesFamily g.row.F c.args.case.now c.args.stocks.now.list c.args.line.0)
    (sym (h ∙ ap (λ (x : InputRows). family_of g.row.F x.case c.args.line.0 x.stocks) c.of-inputs.ensures))
    (family_in g.row.F c.args.case.now c.args.stocks.now c.args.line.0 c.requires.inputs.scale.0 sound c.requires.line)) c.evaluate_family.ensures

pub returns-clause-small : goal.returns-clause-small
returns-clause-small g c =
    let sound = evaluable g.row.F c.args.case.now c.args.stocks.now c.requires.inputs in
    IfOk-weaker c.evaluate_family.result _ _
    (λ r h. subst (IsSmallFamily g.row.F c.args.case.now c.args.line.0)
    (sym (h ∙ ap (λ (x : InputRows). family_of g.row.F x.case c.args.line.0 x.stocks) c.of-inputs.ensures))
    (family_small g.row.F c.args.case.now c.args.stocks.now c.args.line.0 c.requires.inputs.scale.0 sound c.requires.line)) c.evaluate_family.ensures
