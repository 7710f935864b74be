use Rattle.std.proofs.Common.{◌≡◌, ℕ, ◌*◌, List, ◌++◌, length, ap, sym, ◌∙◌}
use Rattle.std.specs.List.{concat}
use Rattle.std.proofs.lemmas.List.Folds.{concat-append}
use Rattle.line_text.specs.Formats.{each}
use Rattle.line_text.specs.Files.{file_text}
use Rattle.line_text.specs.Texts.{count_line, numbers_from}
use Rattle.case_lines.specs.Grammar.{pair_at, rate_line}
use Rattle.case_lines.proofs.rates.put_rates.Goals as goal
use lib.Chars.{codes}
use Rattle.list_laws.proofs.Public.{after_ok, joined_more}

pub returns : goal.returns
returns c =
    let rows = c.args.case.now in
    let out = c.args.out.now.items in
    let keys = numbers_from 0 (length rows.parts * length rows.sites) in
    let head = count_line (codes "rates") (length keys) (length keys) in
    let lines = (each keys (λ i. rate_line (pair_at rows.sites rows.parts i))).print rows.rates in
    let count : c.part_count.result * c.site_count.result ≡ length rows.rates =
    ap (λ (x : ℕ). x * c.site_count.result) c.part_count.ensures.count
    ∙ ap (λ (x : ℕ). length rows.parts * x) c.site_count.ensures.count
    ∙ sym c.part_count.ensures.valid.rate_count in
    after_ok c.put_each_rate.result
    (λ h. joined_more out (file_text head (c.part_count.result * c.site_count.result)) (concat lines) c.put_count_line.new.out.items c.put_each_rate.new.out.items (c.in_ok-put_count_line.ensures (length keys) (length keys)) h
    ∙ ap (λ (n : ℕ). out ++ (file_text head n ++ concat lines)) count
    ∙ ap (λ (z : List ℕ). out ++ z) (sym (concat-append (head.print (length rows.rates)) lines)))
    c.put_each_rate.ensures
