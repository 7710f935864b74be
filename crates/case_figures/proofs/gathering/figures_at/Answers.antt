use Rattle.std.proofs.Common.{◌≡◌, lit<, sym, subst}
use Rattle.std.proofs.lemmas.Result.{IfOk-weaker}
use Rattle.std.specs.Prelude.{IfOk}
use Rattle.case_figures.specs.Figures.{figures_of}
use Rattle.case_figures.specs.Fits.{FitsPrint}
use Rattle.case_figures.specs.Shows.{ShowsFigures}
use Rattle.case_figures.specs.declared.figures.Figures.{Figures}
use Rattle.case_figures.proofs.Shown.{evaluated_as, figures_shown, figures_fit}
use Rattle.case_figures.proofs.gathering.figures_at.Goals as goal

pub figures_with_cost-requires : goal.figures_with_cost-requires
figures_with_cost-requires g c =
    (lit< tt, (c.requires.width, record { stocks = c.args.stocks.now; can = c.requires.inputs; are = c.requires.families }))

pub returns-clause-figures : goal.returns-clause-figures
returns-clause-figures g c =
    subst (λ n. IfOk c.figures_with_cost.result (λ (x : Figures). x ≡ record (figures_of g.row.F c.args.case.now c.args.stocks.now) { cost = n })) c.cost.ensures
    (c.figures_with_cost.ensures c.args.stocks.now c.requires.inputs c.requires.families)

pub returns-clause-shows : goal.returns-clause-shows
returns-clause-shows g c =
    let f = g.row.F in
    let rows = c.args.case.now in
    let stocks = c.args.stocks.now in
    let can = c.requires.inputs in
    IfOk-weaker c.figures_with_cost.result _ _
    (λ x is. subst (ShowsFigures f rows stocks) (sym is) (figures_shown f rows stocks c.requires.width can (evaluated_as f rows stocks can))) (returns-clause-figures g c)

pub returns-clause-printed : goal.returns-clause-printed
returns-clause-printed g c =
    let f = g.row.F in
    let rows = c.args.case.now in
    let stocks = c.args.stocks.now in
    let can = c.requires.inputs in
    IfOk-weaker c.figures_with_cost.result _ _
    (λ x is. subst FitsPrint (sym is) (figures_fit f rows stocks c.requires.width can (evaluated_as f rows stocks can))) (returns-clause-figures g c)
