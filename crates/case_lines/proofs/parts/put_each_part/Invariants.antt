use Rattle.std.proofs.Common.{◌≡◌, ◌++◌, length}
use Rattle.line_text.proofs.Public.{text_from}
use Rattle.case_lines.specs.Grammar.{part_line}
use Rattle.case_lines.proofs.parts.put_each_part.Given as goal

abbrev pub invariant-loop-p : goal.invariant-loop-p
invariant-loop-p l = l.out.items ++ text_from (part_line l.weighted (length l.case.parts)) l.case.parts (length l.case.parts) l.p ≡ l.fn.out.items ++ text_from (part_line l.weighted (length l.case.parts)) l.case.parts (length l.case.parts) 0
