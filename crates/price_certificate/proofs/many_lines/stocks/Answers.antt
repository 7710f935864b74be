use Rattle.std.proofs.Common.{ℕ, Vec, Global}
use Rattle.line_text.specs.Formats.{each}
use Rattle.line_text.specs.Texts.{count_line, numbers_from, number_line}
use Rattle.case_lines.proofs.Public.{gathers_next}
use Rattle.price_certificate.proofs.many_lines.stocks.Goals as goal
use lib.Chars.{codes}

pub returns : goal.returns
returns c =
    gathers_next (λ (v : Vec ℕ Global). v.items) c.each_stock.result (count_line (codes "stocks") c.args.pairs c.args.pairs) (λ n. each (numbers_from 0 n) (λ _. number_line 63))
    c.args.lines.now c.count_line.new.lines c.each_stock.new.lines c.in_ok-count.count c.in_ok-count.ensures c.each_stock.ensures
