use Rattle.std.proofs.Common.{Vec, Global, List}
use Rattle.line_text.specs.Formats.{each}
use Rattle.line_text.specs.Texts.{count_line, numbers_from}
use Rattle.price_certificate.specs.declared.certificate.Node.{Node}
use Rattle.price_certificate.specs.Grammar.{cover}
use Rattle.case_lines.proofs.Public.{gathers_next}
use Rattle.price_certificate.proofs.many_lines.all_covers.Goals as goal
use lib.Chars.{codes}

pub returns : goal.returns
returns c =
    gathers_next (λ (v : Vec (List Node) Global). v.items) c.each_cover.result (count_line (codes "covers") c.args.families c.args.families) (λ n. each (numbers_from 0 n) (λ _. cover))
    c.args.lines.now c.count_line.new.lines c.each_cover.new.lines c.in_ok-count.count c.in_ok-count.ensures c.each_cover.ensures
