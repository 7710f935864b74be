use Rattle.std.proofs.Common.{length, ◌≡◌, ◌∷◌, ◌++◌, [], List, get_or, map, ap, ◌∙◌, arith}
use Rattle.std.proofs.lemmas.List.{length-map}
use Rattle.spares_input.specs.Building.{ids}
use Rattle.spares_input.specs.declared.rows.PartId.{PartId}
use Rattle.spares_input.proofs.FamilyFacts.{row_more}
use Rattle.spares_input.proofs.families.each_alone.Goals as goal

pub loop-p-preserved : goal.loop-p-preserved
loop-p-preserved c =
    let inv = c.loop-p.invariant in
    let alone = ap ids c.in_ok-push.ensures.items ∙ ap (λ (xs : List PartId). ids (xs ++ record { 0 = c.loop-p.p } ∷ [])) c.new-family.ensures.items in
    record {
      whole = omega (arith, c.in_ok-push-2.ensures.len, inv.whole);
      each = λ q b. ap (λ rows. get_or (map (λ v. ids v.items) rows) q []) c.in_ok-push-2.ensures.items
          ∙ row_more (λ v. ids v.items) c.loop-p.families.items c.push.new.self c.loop-p.p inv.whole inv.each alone q b;
    }

pub returns : goal.returns
returns c =
    let inv = c.loop-p.invariant in
    let all : c.loop-p.p ≡ length c.args.parts.now = omega arith in
    record {
      whole = length-map c.loop-p.families.items (λ v. ids v.items) ∙ (inv.whole ∙ all);
      each = λ l b. inv.each l (omega (arith, all, b));
    }
