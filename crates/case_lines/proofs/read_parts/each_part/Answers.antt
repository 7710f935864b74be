use Rattle.std.proofs.Common.{◌≡◌, Vec, Global, Bool, List, ap, sym, ◌∙◌}
use Rattle.std.specs.Prelude.{◌&&◌}
use Rattle.std.proofs.lemmas.Result.{err_from_is_err_and}
use Rattle.line_text.specs.Formats.{one}
use Rattle.line_text.specs.Files.{line}
use Rattle.line_text.specs.Texts.{only}
use Rattle.answers.specs.declared.stop.Stop.TheVariants as stop
use Rattle.spares_input.specs.declared.rows.PartRow.{PartRow}
use Rattle.case_lines.specs.Grammar.{is_owed, may_stand, part_fields, part_line, part_lines}
use Rattle.line_text.proofs.Public.{step, stops}
use Rattle.case_lines.proofs.read_parts.each_part.Goals as goal

pub returns-in_err-part : goal.returns-in_err-part
returns-in_err-part c =
    let p = err_from_is_err_and c.from_residual.result c.from_residual.ensures.1 in
    let w = c.args.weighted in
    let owed : c.is_owed-owed.result ≡ (w && is_owed c.args.count c.loop-k.found.items c.loop-k.k) = c.is_owed-owed.ensures ∙ ap (λ (b : List PartRow). w && is_owed c.args.count b c.loop-k.k) c.as_slice.ensures.value in
    rw (p.1, p.2) (stops (λ (v : Vec PartRow Global). v.items) (stop.Fault c.in_err-part.field-0.0) (part_line w c.args.count) c.loop-k.found.items c.args.count c.loop-k.k c.loop-k.lines c.part_line.new.lines ((part_lines w c.args.count).read c.args.lines.now)
    c.loop-k-test.true
    (ap (λ (b : Bool). (one (only (may_stand b) (line (part_fields w)))).read c.loop-k.lines) (sym owed) ∙ c.in_err-part.ensures) c.loop-k.invariant)

pub loop-k-preserved : goal.loop-k-preserved
loop-k-preserved c =
    let w = c.args.weighted in
    let owed : c.is_owed-owed.result ≡ (w && is_owed c.args.count c.loop-k.found.items c.loop-k.k) = c.is_owed-owed.ensures ∙ ap (λ (b : List PartRow). w && is_owed c.args.count b c.loop-k.k) c.as_slice.ensures.value in
    rw c.in_ok-push.ensures.items (step (part_line w c.args.count) c.loop-k.found.items c.args.count c.loop-k.k c.loop-k.lines c.part_line.new.lines c.in_ok-part.part ((part_lines w c.args.count).read c.args.lines.now)
    c.loop-k-test.true
    (ap (λ (b : Bool). (one (only (may_stand b) (line (part_fields w)))).read c.loop-k.lines) (sym owed) ∙ c.in_ok-part.ensures) c.loop-k.invariant)
