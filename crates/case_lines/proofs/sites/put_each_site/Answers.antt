use Rattle.std.proofs.Common.{◌<◌, ◌≤◌, ◌++◌, length, ap, ◌∙◌, arith}
use Rattle.std.specs.List.{concat}
use Rattle.line_text.proofs.Public.{text_from, print_step, print_end}
use Rattle.spares_input.specs.Rows.{no_site}
use Rattle.case_lines.specs.Grammar.{site_line}
use Rattle.case_lines.proofs.sites.put_each_site.Goals as goal

pub loop-k-preserved : goal.loop-k-preserved
loop-k-preserved c =
    let rows = c.args.case.now.sites in
    let k = c.loop-k.k in
    let within : k < length rows = omega (arith, c.loop-k-test.true, c.site_count-count.ensures.count) in
    print_step (λ _ k. site_line k) rows no_site (length rows) k c.loop-k.out.items c.put_site.new.out.items
    (c.args.out.now.items ++ text_from (λ _ k. site_line k) rows (length rows) 0) within within
    (c.in_ok-put_site.ensures ∙ ap (λ s. c.loop-k.out.items ++ concat ((site_line k).print s)) c.site.ensures.row) c.loop-k.invariant

pub returns : goal.returns
returns c =
    let rows = c.args.case.now.sites in
    let all : length rows ≤ c.loop-k.k = omega (arith, c.loop-k-test.false, c.site_count-count.ensures.count) in
    print_end (λ _ k. site_line k) rows (length rows) c.loop-k.k c.loop-k.out.items c.args.out.now.items all c.loop-k.invariant
