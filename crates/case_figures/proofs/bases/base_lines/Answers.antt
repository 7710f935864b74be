use Rattle.std.proofs.Common.{◌-◌, ap, sym, ◌∙◌, arith}
use Rattle.fixed_interval.specs.Ends.{ends_exact}
use Rattle.spares_input.specs.declared.rows.SiteRow.{SiteRow}
use Rattle.availability.specs.declared.Weighted.{Weighted}
use Rattle.case_figures.specs.Spans.{span_of}
use Rattle.case_figures.specs.Gathering.{base_line_from}
use Rattle.case_figures.proofs.Rows.{pushed, read}
use Rattle.case_figures.proofs.bases.base_lines.Goals as goal

pub loop-k-preserved : goal.loop-k-preserved
loop-k-preserved g c =
    let k = c.loop-k.k in
    let list = c.args.weighted.now in
    let base = read list list (k - 1) c.index-weighted-k.result (record { systems = 0; value = ends_exact g.row.F 0 }) c.index-weighted-k.is (λ i. list)
    (omega (arith, c.requires.count, c.loop-k-test.true, c.site_count-k-end.ensures.count, c.loop-k.auto.k)) in
    let span = c.span_of.ensures ∙ ap (λ (b : Weighted g.row.F). span_of g.row.F b.value) (sym c.index-weighted-k.is ∙ base) in
    let name = ap (λ (row : SiteRow). row.name) c.site.ensures.row in
    pushed (base_line_from g.row.F c.args.case.now list) k c.loop-k.lines.items c.push.new.self.items _ (omega (arith, c.loop-k.auto.k))
    c.in_ok-push.ensures.items c.loop-k.invariant
    (λ i. record { site = name i; availability = span i })
