use Rattle.std.proofs.Common.{◌≡◌, ◌*◌, ℕ, length, ap, sym, ◌∙◌}
use Rattle.spares_input.specs.Cases.{frame_rows, pair_count}
use Rattle.line_text.specs.Texts.{number_line}
use Rattle.price_certificate.proofs.Written.{counted_written}
use Rattle.price_certificate.proofs.writing.put_stocks.Goals as goal
use lib.Chars.{codes}
use Rattle.list_laws.proofs.Public.{after_ok}

pub returns : goal.returns
returns c =
    let rows = c.args.case.now in
    let pairs = pair_count (frame_rows rows) in
    let count : c.part_count.result * c.site_count.result ≡ length c.args.list.now.list =
    ap (λ (x : ℕ). x * c.site_count.result) c.part_count.ensures.count ∙ ap (λ (x : ℕ). length rows.parts * x) c.site_count.ensures.count ∙ sym c.requires.pairs in
    after_ok c.put_each_stock.result
    (λ h. counted_written (codes "stocks") pairs pairs (number_line 63) c.args.list.now.list c.args.out.now.items c.put_count_line.new.out.items c.put_each_stock.new.out.items (c.part_count.result * c.site_count.result) count (c.in_ok-put_count_line.ensures pairs pairs)
    (rw c.as_slice.ensures.list at h (λ _. 63)))
    c.put_each_stock.ensures
