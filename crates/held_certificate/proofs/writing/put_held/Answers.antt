use Rattle.std.proofs.Common.{◌≡◌, ◌*◌, ◌/◌, ◌%◌, ◌++◌, ℕ, List, length, ap, sym, ◌∙◌}
use Rattle.std.specs.List.{concat}
use Rattle.std.proofs.lemmas.List.Folds.{concat-append}
use Rattle.line_text.specs.Formats.{each}
use Rattle.line_text.specs.Files.{file_text}
use Rattle.line_text.specs.Texts.{count_line, numbers_from}
use Rattle.spares_input.specs.Cases.{frame_rows, pair_count}
use Rattle.spares_input.specs.Stocks.{limit_at}
use Rattle.held_certificate.specs.Held.{held_line}
use Rattle.held_certificate.proofs.writing.put_held.Goals as goal
use lib.Chars.{codes}
use Rattle.list_laws.proofs.Public.{joined_more}

pub returns : goal.returns
returns c =
    let rows = c.args.case.now in
    let xs = c.args.list.now.list in
    let out = c.args.out.now.items in
    let pairs = pair_count (frame_rows rows) in
    let head = count_line (codes "held") pairs pairs in
    let lines = (each (numbers_from 0 (length xs)) (held_line rows)).print xs in
    let count : c.part_count.result * c.site_count.result ≡ length xs =
    ap (λ (x : ℕ). x * c.site_count.result) c.part_count.ensures.count ∙ ap (λ (x : ℕ). length rows.parts * x) c.site_count.ensures.count ∙ sym c.requires.pairs in
    joined_more out (file_text head (c.part_count.result * c.site_count.result)) (concat lines) c.put_count_line.new.out.items c.put_each_stock.new.out.items (c.in_ok-put_count_line.ensures pairs pairs) (rw c.as_slice.ensures.list at (c.in_ok-put_each_stock.ensures (λ i. limit_at rows.parts (i / length rows.sites) (i % length rows.sites))))
    ∙ ap (λ (n : ℕ). out ++ (file_text head n ++ concat lines)) count
    ∙ ap (λ (z : List ℕ). out ++ z) (sym (concat-append (head.print (length xs)) lines))
