use Rattle.std.proofs.Common.{◌≡◌, ◌<◌, ℕ, false, get_or}
use Rattle.line_text.specs.Files.{comma}
use Rattle.line_text.proofs.lines.field_end.Given as goal

abbrev pub invariant-loop-i : goal.invariant-loop-i
invariant-loop-i l = (k : ℕ) → k < l.i → comma (get_or l.bytes k 0) ≡ false
