use Rattle.std.proofs.Common.{◌≡◌, ◌*◌, ℕ, length, refl, ap, ◌∙◌, arith}
use Rattle.std.proofs.lemmas.Nat.{mul-le}
use Rattle.line_text.proofs.Public.{a_field, count_line_is_exact}
use Rattle.price_certificate.proofs.Public.{count_within}
use Rattle.held_certificate.proofs.reading.held_stocks.Goals as goal
use lib.Chars.{codes}

pub each_held-requires : goal.each_held-requires
each_held-requires c =
    let rows = c.args.case.now in
    let n = c.part_count.result * c.site_count.result in
    let same : n ≡ length rows.parts * length rows.sites = ap (λ (x : ℕ). x * c.site_count.result) c.part_count.ensures.count ∙ ap (λ (x : ℕ). length rows.parts * x) c.site_count.ensures.count in
    let few = mul-le (length rows.parts) (length rows.sites) 2000 16 c.part_count.ensures.valid.frame.most_parts c.part_count.ensures.valid.frame.most_sites in
    let exact = count_line_is_exact (codes "held") n n (a_field (codes "held") refl) (omega arith) (omega (arith, same, few)) in
    let within = (count_within (codes "held") n n c.in_ok-count.count (exact.takes c.args.lines.now c.in_ok-count.count c.count_line.new.lines c.in_ok-count.ensures).0).1 in
    omega (arith, within, same)
