use Rattle.std.proofs.Common.{◌≡◌}
use Rattle.line_text.specs.Formats.{each}
use Rattle.line_text.specs.Texts.{numbers_from}
use Rattle.line_text.proofs.Public.{read_from}
use Rattle.price_certificate.specs.Grammar.{node_line}
use Rattle.price_certificate.proofs.many_lines.each_node.Given as goal

abbrev pub invariant-loop-k : goal.invariant-loop-k
invariant-loop-k l = read_from (λ _ _. node_line) l.found.items l.count l.k l.lines ≡ (each (numbers_from 0 l.count) (λ _. node_line)).read l.fn.lines
