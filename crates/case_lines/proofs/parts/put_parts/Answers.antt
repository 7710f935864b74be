use Rattle.std.proofs.Common.{◌≡◌, ◌++◌, Bool, List, ℕ, length, ap, sym, ◌∙◌}
use Rattle.std.specs.List.{concat}
use Rattle.list_laws.proofs.Public.{after_ok, joined_more}
use Rattle.line_text.specs.Files.{file_text}
use Rattle.spares_input.specs.Frames.{FrameRows}
use Rattle.case_lines.specs.Grammar.{are_weighted, header, parts_line, part_lines}
use Rattle.case_lines.proofs.Written.{parts_printed}
use Rattle.case_lines.proofs.parts.put_parts.Goals as goal

pub returns : goal.returns
returns c =
    let rows = c.args.case.now.parts in
    let out = c.args.out.now.items in
    let w = c.are_weighted-weighted.result in
    let is : w ≡ are_weighted rows =
    c.are_weighted-weighted.ensures ∙ ap are_weighted (c.parts.ensures.rows ∙ ap (λ (f : FrameRows). f.parts) c.frame.ensures.frame) in
    let n = c.part_count.result in
    let count : n ≡ length rows = c.part_count.ensures.count in
    let lines = λ (b : Bool). concat ((part_lines b (length rows)).print rows) in
    after_ok c.put_each_part.result
    (λ h. joined_more out (file_text parts_line (header w n)) (lines w) c.put_parts_line.new.out.items c.put_each_part.new.out.items c.in_ok-put_parts_line.ensures h
    ∙ ap (λ (m : ℕ). out ++ (file_text parts_line (header w m) ++ lines w)) count
    ∙ ap (λ (b : Bool). out ++ (file_text parts_line (header b (length rows)) ++ lines b)) is
    ∙ ap (λ (z : List ℕ). out ++ z) (sym (parts_printed rows)))
    c.put_each_part.ensures
