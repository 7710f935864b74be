use Rattle.std.proofs.Common.{◌<◌, ◌≤◌, ◌++◌, List, ℕ, length, ap, sym, ◌∙◌, arith}
use Rattle.line_text.specs.Files.{line}
use Rattle.line_text.proofs.Public.{text_from, print_step, print_end, one_text}
use Rattle.spares_input.specs.Rows.{no_part}
use Rattle.spares_input.specs.Frames.{part_at}
use Rattle.case_lines.specs.Grammar.{part_line, part_fields}
use Rattle.case_lines.proofs.parts.put_each_part.Goals as goal

pub loop-p-preserved : goal.loop-p-preserved
loop-p-preserved c =
    let rows = c.args.case.now.parts in
    let format = part_line c.args.weighted (length rows) in
    let p = c.loop-p.p in
    let within : p < length rows = omega (arith, c.loop-p-test.true, c.part_count-count.ensures.count) in
    print_step format rows no_part (length rows) p c.loop-p.out.items c.put_part.new.out.items (c.args.out.now.items ++ text_from format rows (length rows) 0) within within
    (c.in_ok-put_part.ensures ∙ ap (λ r. c.loop-p.out.items ++ (line (part_fields c.args.weighted)).print r) c.part.ensures.row
    ∙ ap (λ (z : List ℕ). c.loop-p.out.items ++ z) (sym (one_text (line (part_fields c.args.weighted)) (part_at rows p)))) c.loop-p.invariant

pub returns : goal.returns
returns c =
    let rows = c.args.case.now.parts in
    let all : length rows ≤ c.loop-p.p = omega (arith, c.loop-p-test.false, c.part_count-count.ensures.count) in
    print_end (part_line c.args.weighted (length rows)) rows (length rows) c.loop-p.p c.loop-p.out.items c.args.out.now.items all c.loop-p.invariant
