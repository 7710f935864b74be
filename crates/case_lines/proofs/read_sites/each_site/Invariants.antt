use Rattle.std.proofs.Common.{◌≡◌, ◌-◌}
use Rattle.line_text.specs.Formats.{each, read_after}
use Rattle.line_text.specs.Texts.{numbers_from}
use Rattle.line_text.proofs.Public.{with_front}
use Rattle.case_lines.specs.Grammar.{site_line}
use Rattle.case_lines.proofs.read_sites.each_site.Given as goal

abbrev pub invariant-loop-k : goal.invariant-loop-k
invariant-loop-k l = with_front l.found.items (read_after (λ _ k. site_line k) l.found.items (numbers_from l.k (l.count - l.k)) l.lines) ≡ (each (numbers_from 0 l.count) site_line).read l.fn.lines
