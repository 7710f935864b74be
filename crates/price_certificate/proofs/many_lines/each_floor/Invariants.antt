use Rattle.std.proofs.Common.{◌≡◌, ◌^◌}
use Rattle.line_text.specs.Formats.{each}
use Rattle.line_text.specs.Texts.{numbers_from}
use Rattle.line_text.proofs.Public.{read_from}
use Rattle.line_text.specs.Texts.{number_line}
use Rattle.price_certificate.proofs.many_lines.each_floor.Given as goal

abbrev pub invariant-loop-k : goal.invariant-loop-k
invariant-loop-k l = read_from (λ _ _. number_line (2 ^ 115)) l.found.items l.count l.k l.lines ≡ (each (numbers_from 0 l.count) (λ _. number_line (2 ^ 115))).read l.fn.lines
