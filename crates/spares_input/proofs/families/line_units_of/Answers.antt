use Rattle.std.proofs.Common.{◌≡◌, refl, sym, ap, ◌∙◌}
use Rattle.std.proofs.lemmas.List.{get_or_read}
use Rattle.spares_input.specs.Rows.{is_line, no_part}
use Rattle.spares_input.specs.Frames.{part_at}
use Rattle.spares_input.proofs.SiteFacts.{not_not}
use Rattle.spares_input.proofs.FamilyFacts.{line_put, shop_passed}
use Rattle.spares_input.proofs.families.line_units_of.Goals.{then-is_none+in_ok-push, else-is_none}
use Rattle.spares_input.proofs.families.line_units_of.Goals as goal

pub loop-p-preserved : goal.loop-p-preserved
loop-p-preserved c =
    let parts = c.args.parts.now in
    let p = c.loop-p.p in
    let lines = c.loop-p.lines.items in
    let row = get_or_read parts p c.index-parts-p.result c.loop-p-test.true c.index-parts-p.is no_part in
    let test : c.is_none.result ≡ is_line (part_at parts p) = sym (not_not _ _ c.is_none.ensures) ∙ ap is_line row in
    elim c.if-is_none.branch [
      | then-is_none+in_ok-push w ↦
          rw w.lines-is (line_put parts p lines c.loop-p.invariant w.push.new.self.items (record { 0 = p }) refl (sym test ∙ w.if-is_none.true) w.in_ok-push.ensures.items)
      | else-is_none w ↦ rw w.lines-is (shop_passed parts p lines c.loop-p.invariant (sym test ∙ w.if-is_none.false))
    ]
