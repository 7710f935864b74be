use Rattle.std.proofs.Common.{◌≡◌}
use Rattle.line_text.specs.Formats.{each}
use Rattle.line_text.specs.Texts.{numbers_from}
use Rattle.line_text.proofs.Public.{read_from}
use Rattle.held_certificate.specs.Held.{held_line}
use Rattle.held_certificate.proofs.reading.each_held.Given as goal

abbrev pub invariant-loop-i : goal.invariant-loop-i
invariant-loop-i l = read_from (λ _ i. held_line l.case i) l.found.items l.count l.i l.lines ≡ (each (numbers_from 0 l.count) (held_line l.case)).read l.fn.lines
