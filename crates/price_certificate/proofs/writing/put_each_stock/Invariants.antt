use Rattle.std.proofs.Common.{ℕ, ◌≡◌, ◌++◌, length}
use Rattle.line_text.proofs.Public.{text_from}
use Rattle.line_text.specs.Texts.{number_line}
use Rattle.price_certificate.proofs.writing.put_each_stock.Given as goal

abbrev pub invariant-loop-k : goal.invariant-loop-k
invariant-loop-k l = (most : ℕ → ℕ) → l.out.items ++ text_from (λ _ i. number_line (most i)) l.list (length l.list) l.k ≡ l.fn.out.items ++ text_from (λ _ i. number_line (most i)) l.list (length l.list) 0
