use Rattle.std.proofs.Common.{Vec, Global}
use Rattle.spares_input.specs.declared.rows.PartRow.{PartRow}
use Rattle.case_lines.specs.Grammar.{count_in, header, part_lines, parts_line, weights_in}
use Rattle.case_lines.proofs.Taken.{by_header, gathers_next}
use Rattle.case_lines.proofs.read_parts.parts.Goals as goal

pub returns : goal.returns
returns c =
    gathers_next (λ (v : Vec PartRow Global). v.items) c.each_part.result parts_line (λ h. part_lines (weights_in h) (count_in h))
    c.args.lines.now c.parts_line.new.lines c.each_part.new.lines (header c.in_ok-weighted.weighted c.in_ok-weighted.count) c.in_ok-weighted.ensures
    (by_header (λ (v : Vec PartRow Global). v.items) c.each_part.result c.parts_line.new.lines c.each_part.new.lines c.in_ok-weighted.weighted c.in_ok-weighted.count c.each_part.ensures)
