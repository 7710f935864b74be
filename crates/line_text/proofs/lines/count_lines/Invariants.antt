use Rattle.std.proofs.Common.{◌≡◌, ◌+◌, length}
use Rattle.line_text.specs.Files.{lines_of}
use Rattle.line_text.proofs.lines.count_lines.Given as goal

abbrev pub invariant-loop-left : goal.invariant-loop-left
invariant-loop-left l = l.count + length l.left ≡ length (lines_of l.bytes)

abbrev pub decreases-loop-left : goal.decreases-loop-left
decreases-loop-left l = length l.left
