use Rattle.std.proofs.Common.{◌^◌, ℕ, Vec, Global}
use Rattle.line_text.specs.Formats.{each}
use Rattle.line_text.specs.Texts.{count_line, numbers_from, number_line}
use Rattle.case_lines.proofs.Public.{gathers_next}
use Rattle.price_certificate.proofs.many_lines.floors.Goals as goal
use lib.Chars.{codes}

pub returns : goal.returns
returns c =
    gathers_next (λ (v : Vec ℕ Global). v.items) c.each_floor.result (count_line (codes "floors") c.args.families c.args.families) (λ n. each (numbers_from 0 n) (λ _. number_line (2 ^ 115)))
    c.args.lines.now c.count_line.new.lines c.each_floor.new.lines c.in_ok-count.count c.in_ok-count.ensures c.each_floor.ensures
