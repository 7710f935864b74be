use Rattle.std.proofs.Common.{◌≡◌, ◌+◌, Some, map, refl, sym, ap, ◌∙◌, subst}
use Rattle.std.specs.Option.{option_map}
use Rattle.list_laws.proofs.Public.{not_some}
use Rattle.spares_input.specs.Frames.{line_of}
use Rattle.spares_input.specs.Building.{AreFamiliesBelow, ids}
use Rattle.spares_input.proofs.FamilyFacts.{line_passed, line_within, shop_put}
use Rattle.spares_input.proofs.families.families_of.Goals.{in-Some+in_ok-push, in_default}
use Rattle.spares_input.proofs.families.families_of.Goals as goal

pub loop-p-preserved : goal.loop-p-preserved
loop-p-preserved c =
    let parts = c.args.parts.now in
    let p = c.loop-p.p in
    let parent = c.requires.parents.each p c.loop-p-test.true in
    elim c.match-parents-p.branch [
      | in-Some+in_ok-push w ↦
          let m = w.in-Some.line.0 in
          let line : line_of parts p ≡ Some m = sym parent ∙ ap (option_map (λ line. line.0)) w.in-Some.is in
          subst (λ rows. AreFamiliesBelow parts (p + 1) (map (λ v. ids v.items) rows)) (sym (ap (λ rows. rows.items) w.families-is))
          (shop_put parts c.requires.distinct p m line (λ v. v.items) c.loop-p.families.items w.index_mut-family.result.now w.push.new.self (record { 0 = p })
          (line_within parts p m line) refl w.index_mut-family.ensures.value w.in_ok-push.ensures.items c.loop-p.invariant)
      | in_default w ↦ subst (λ rows. AreFamiliesBelow parts (p + 1) (map (λ v. ids v.items) rows)) (sym (ap (λ rows. rows.items) w.families-is))
          (line_passed parts p (map (λ v. ids v.items) c.loop-p.families.items) (sym parent ∙ ap (option_map (λ line. line.0)) (not_some _ w.in_default.not-Some)) c.loop-p.invariant)
    ]
