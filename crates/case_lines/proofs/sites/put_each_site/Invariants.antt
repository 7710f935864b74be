use Rattle.std.proofs.Common.{◌≡◌, ◌++◌, length}
use Rattle.line_text.proofs.Public.{text_from}
use Rattle.case_lines.specs.Grammar.{site_line}
use Rattle.case_lines.proofs.sites.put_each_site.Given as goal

abbrev pub invariant-loop-k : goal.invariant-loop-k
invariant-loop-k l = l.out.items ++ text_from (λ _ k. site_line k) l.case.sites (length l.case.sites) l.k ≡ l.fn.out.items ++ text_from (λ _ k. site_line k) l.case.sites (length l.case.sites) 0
