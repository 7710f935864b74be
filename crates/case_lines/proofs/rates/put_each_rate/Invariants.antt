use Rattle.std.proofs.Common.{◌≡◌, ◌*◌, ◌++◌, length}
use Rattle.line_text.proofs.Public.{text_from}
use Rattle.case_lines.specs.Grammar.{pair_at, rate_line}
use Rattle.case_lines.proofs.rates.put_each_rate.Given as goal

abbrev pub invariant-loop-i : goal.invariant-loop-i
invariant-loop-i l = l.out.items ++ text_from (λ _ i. rate_line (pair_at l.case.sites l.case.parts i)) l.case.rates (length l.case.parts * length l.case.sites) l.i
    ≡ l.fn.out.items ++ text_from (λ _ i. rate_line (pair_at l.case.sites l.case.parts i)) l.case.rates (length l.case.parts * length l.case.sites) 0
