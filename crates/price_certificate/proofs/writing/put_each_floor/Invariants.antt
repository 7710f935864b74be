use Rattle.std.proofs.Common.{◌≡◌, ◌++◌, length, ◌^◌}
use Rattle.line_text.proofs.Public.{text_from}
use Rattle.line_text.specs.Texts.{number_line}
use Rattle.price_certificate.proofs.writing.put_each_floor.Given as goal

abbrev pub invariant-loop-k : goal.invariant-loop-k
invariant-loop-k l = l.out.items ++ text_from (λ _ _. number_line (2 ^ 115)) l.list (length l.list) l.k ≡ l.fn.out.items ++ text_from (λ _ _. number_line (2 ^ 115)) l.list (length l.list) 0
