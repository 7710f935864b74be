use Rattle.std.proofs.Common.{Vec, Global}
use Rattle.line_text.specs.Formats.{each}
use Rattle.line_text.specs.Texts.{count_line, numbers_from}
use Rattle.spares_input.specs.declared.rows.SiteRow.{SiteRow}
use Rattle.case_lines.specs.Grammar.{site_line}
use Rattle.case_lines.proofs.Taken.{gathers_next}
use Rattle.case_lines.proofs.read_sites.sites.Goals as goal
use lib.Chars.{codes}

pub returns : goal.returns
returns c =
    gathers_next (λ (v : Vec SiteRow Global). v.items) c.each_site.result (count_line (codes "sites") 2 16) (λ n. each (numbers_from 0 n) site_line)
    c.args.lines.now c.count_line.new.lines c.each_site.new.lines c.in_ok-count.count c.in_ok-count.ensures c.each_site.ensures
