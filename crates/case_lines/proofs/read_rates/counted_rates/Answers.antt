use Rattle.std.proofs.Common.{◌*◌, Vec, Global, length}
use Rattle.line_text.specs.Formats.{each}
use Rattle.line_text.specs.Texts.{count_line, numbers_from}
use Rattle.spares_input.specs.declared.rows.RateRow.{RateRow}
use Rattle.case_lines.specs.Grammar.{pair_at, rate_line}
use Rattle.case_lines.proofs.Taken.{gathers_next}
use Rattle.case_lines.proofs.read_rates.counted_rates.Goals as goal
use lib.Chars.{codes}

pub returns : goal.returns
returns c =
    let n = length c.args.parts.now * length c.args.sites.now in
    gathers_next (λ (v : Vec RateRow Global). v.items) c.each_rate.result (count_line (codes "rates") n n) (λ _. each (numbers_from 0 n) (λ i. rate_line (pair_at c.args.sites.now c.args.parts.now i)))
    c.args.lines.now c.count_line.new.lines c.each_rate.new.lines c.in_ok-_count._count c.in_ok-_count.ensures c.each_rate.ensures
