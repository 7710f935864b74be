use Rattle.std.proofs.Common.{◌≡◌, ◌-◌}
use Rattle.line_text.specs.Formats.{read_after}
use Rattle.line_text.specs.Texts.{numbers_from}
use Rattle.line_text.proofs.Public.{with_front}
use Rattle.case_lines.specs.Grammar.{part_line, part_lines}
use Rattle.case_lines.proofs.read_parts.each_part.Given as goal

abbrev pub invariant-loop-k : goal.invariant-loop-k
invariant-loop-k l = with_front l.found.items (read_after (part_line l.weighted l.count) l.found.items (numbers_from l.k (l.count - l.k)) l.lines) ≡ (part_lines l.weighted l.count).read l.fn.lines
