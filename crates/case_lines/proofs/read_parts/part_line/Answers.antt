use Rattle.line_text.specs.Files.{line}
use Rattle.line_text.proofs.Public.{line_read, only_stands, only_falls}
use Rattle.case_lines.specs.Grammar.{may_stand, part_fields}
use Rattle.std.proofs.Common.{sym, ◌∙◌, refl}
use Rattle.line_text.specs.Reading.{later}
use Rattle.case_lines.proofs.read_parts.part_line.Goals as goal

pub returns-then-may_stand : goal.returns-then-may_stand
returns-then-may_stand c =
    only_stands (line (part_fields c.args.weighted)) (may_stand c.args.owed) c.args.lines.now c.in-Some.part c.pass.new.self
    (line_read (part_fields c.args.weighted) c.args.lines.now c.in_ok-fields.fields c.in-Some.part c.pass.new.self c.in_ok-fields.ensures c.in-Some.ensures c.pass.ensures)
    (sym c.may_stand.ensures ∙ c.if-may_stand.true)

pub returns-else-may_stand : goal.returns-else-may_stand
returns-else-may_stand c =
    only_falls (line (part_fields c.args.weighted)) (may_stand c.args.owed) c.args.lines.now c.in-Some.part (later c.args.lines.now)
    (line_read (part_fields c.args.weighted) c.args.lines.now c.in_ok-fields.fields c.in-Some.part (later c.args.lines.now) c.in_ok-fields.ensures c.in-Some.ensures refl)
    (sym c.may_stand.ensures ∙ c.if-may_stand.false)
