use Rattle.std.proofs.Common.{ℕ, List, ◌++◌, length, ap, sym, ◌∙◌}
use Rattle.std.specs.List.{concat}
use Rattle.std.proofs.lemmas.List.Folds.{concat-append}
use Rattle.line_text.specs.Formats.{each}
use Rattle.line_text.specs.Files.{file_text}
use Rattle.line_text.specs.Texts.{count_line, numbers_from}
use Rattle.case_lines.specs.Grammar.{site_line}
use Rattle.case_lines.proofs.sites.put_sites.Goals as goal
use lib.Chars.{codes}
use Rattle.list_laws.proofs.Public.{after_ok, joined_more}

pub returns : goal.returns
returns c =
    let rows = c.args.case.now.sites in
    let out = c.args.out.now.items in
    let head = count_line (codes "sites") 2 16 in
    let lines = (each (numbers_from 0 (length rows)) site_line).print rows in
    after_ok c.put_each_site.result
    (λ h. joined_more out (file_text head c.site_count.result) (concat lines) c.put_count_line.new.out.items c.put_each_site.new.out.items (c.in_ok-put_count_line.ensures 2 16) h
    ∙ ap (λ (n : ℕ). out ++ (file_text head n ++ concat lines)) c.site_count.ensures.count
    ∙ ap (λ (z : List ℕ). out ++ z) (sym (concat-append (head.print (length rows)) lines)))
    c.put_each_site.ensures
