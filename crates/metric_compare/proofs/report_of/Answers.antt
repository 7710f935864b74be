use Rattle.std.proofs.Common.{◌≡◌, refl, ap, sym, subst, ◌∙◌}
use Rattle.case_figures.specs.Spans.{ends, places}
use Rattle.case_figures.specs.declared.figures.Figures.{Figures}
use Rattle.metric_compare.proofs.report_of.Goals as goal

pub interval-requires : goal.interval-requires
interval-requires c = subst (λ (x : Figures). places x.total ≡ 48) (sym c.requires) refl

pub returns : goal.returns
returns c =
    let items = c.of.ensures ∙ c.in_ok-items.ensures in
    let total = c.interval.ensures ∙ ap (λ (x : Figures). ends x.total) c.requires in
    λ i. record { items = items i; total = total i; poisson_total = c.poisson_total.ensures i }
