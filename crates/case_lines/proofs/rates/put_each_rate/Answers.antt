use Rattle.std.proofs.Common.{◌≡◌, ◌<◌, ◌≤◌, ◌*◌, ◌/◌, ◌%◌, ◌++◌, List, ℕ, length, get_or, ap, sym, ◌∙◌, arith}
use Rattle.std.proofs.lemmas.Nat.{div-add-mod'}
use Rattle.line_text.specs.Files.{line}
use Rattle.line_text.proofs.Public.{text_from, print_step, print_end, one_text}
use Rattle.spares_input.specs.Rows.{no_rate}
use Rattle.spares_input.specs.Frames.{part_at, site_at}
use Rattle.spares_input.specs.Cases.{rate_at}
use Rattle.case_lines.specs.Grammar.{pair_of, pair_at, rate_line, rate_fields}
use Rattle.case_lines.proofs.rates.put_each_rate.Goals as goal

pub loop-i-preserved : goal.loop-i-preserved
loop-i-preserved c =
    let rows = c.args.case.now in
    let ss = rows.sites in
    let ps = rows.parts in
    let n = length ss in
    let count = length ps * n in
    let i = c.loop-i.i in
    let out = c.loop-i.out.items in
    let pairs : c.part_count.result * c.site_count-sites.result ≡ count = ap (λ (x : ℕ). x * c.site_count-sites.result) c.part_count.ensures.count ∙ ap (λ (x : ℕ). length ps * x) c.site_count-sites.ensures.count in
    let within : i < count = omega (arith, c.loop-i-test.true, pairs) in
    let there : i < length rows.rates = omega (arith, within, c.part_count.ensures.valid.rate_count) in
    print_step (λ _ i. rate_line (pair_at ss ps i)) rows.rates no_rate count i out c.put_pair.new.out.items
    (c.args.out.now.items ++ text_from (λ _ i. rate_line (pair_at ss ps i)) rows.rates count 0) within there
    (c.in_ok-put_pair.ensures
    ∙ ap (λ (m : ℕ). out ++ (line (rate_fields (pair_of (i / m) (part_at ps (i / m)) (i % m) (site_at ss (i % m))))).print (rate_at rows (i / m) (i % m))) c.site_count-sites.ensures.count
    ∙ ap (λ (j : ℕ). out ++ (line (rate_fields (pair_at ss ps i))).print (get_or rows.rates j no_rate)) (div-add-mod' i n)
    ∙ ap (λ (z : List ℕ). out ++ z) (sym (one_text (line (rate_fields (pair_at ss ps i))) (get_or rows.rates i no_rate))))
    c.loop-i.invariant

pub returns : goal.returns
returns c =
    let rows = c.args.case.now in
    let ss = rows.sites in
    let ps = rows.parts in
    let count = length ps * length ss in
    let pairs : c.part_count.result * c.site_count-sites.result ≡ count = ap (λ (x : ℕ). x * c.site_count-sites.result) c.part_count.ensures.count ∙ ap (λ (x : ℕ). length ps * x) c.site_count-sites.ensures.count in
    let all : count ≤ c.loop-i.i = omega (arith, c.loop-i-test.false, pairs) in
    print_end (λ _ i. rate_line (pair_at ss ps i)) rows.rates count c.loop-i.i c.loop-i.out.items c.args.out.now.items all c.loop-i.invariant
