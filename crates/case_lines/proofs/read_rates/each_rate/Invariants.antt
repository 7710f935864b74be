use Rattle.std.proofs.Common.{◌≡◌, ◌-◌, ◌*◌, length}
use Rattle.line_text.specs.Formats.{each, read_after}
use Rattle.line_text.specs.Texts.{numbers_from}
use Rattle.line_text.proofs.Public.{with_front}
use Rattle.case_lines.specs.Grammar.{rate_line, pair_at}
use Rattle.case_lines.proofs.read_rates.each_rate.Given as goal

abbrev pub invariant-loop-i : goal.invariant-loop-i
invariant-loop-i l = with_front l.found.items (read_after (λ _ i. rate_line (pair_at l.sites l.parts i)) l.found.items (numbers_from l.i (length l.parts * length l.sites - l.i)) l.lines)
    ≡ (each (numbers_from 0 (length l.parts * length l.sites)) (λ i. rate_line (pair_at l.sites l.parts i))).read l.fn.lines
