use Rattle.std.proofs.Common.{ap, subst, sym, ◌∙◌}
use Rattle.std.proofs.lemmas.Result.{IfOk-weaker}
use Rattle.family_items.specs.Inputs.{InputRows}
use Rattle.metric_compare.specs.Report.{comparison_of}
use Rattle.metric_compare.specs.Shows.{ShowsComparison}
use Rattle.metric_compare.specs.Fits.{FitsComparison}
use Rattle.metric_compare.proofs.Shown.{fits, shown}
use Rattle.metric_compare.proofs.compare.Goals as goal

pub returns-clause-comparison : goal.returns-clause-comparison
returns-clause-comparison c =
    IfOk-weaker c.report_of.result _ _ (λ r h. h ∙ ap (λ (x : InputRows). comparison_of x.case x.stocks) c.of-inputs.ensures) c.report_of.ensures

pub returns-clause-shows : goal.returns-clause-shows
returns-clause-shows c =
    IfOk-weaker c.report_of.result _ _
    (λ r h. subst (ShowsComparison c.args.case.now c.args.stocks.now) (sym h) (shown c.args.case.now c.args.stocks.now c.requires.inputs)) (returns-clause-comparison c)

pub returns-clause-printed : goal.returns-clause-printed
returns-clause-printed c =
    IfOk-weaker c.report_of.result _ _ (λ r h. subst FitsComparison (sym h) (fits c.args.case.now c.args.stocks.now c.requires.inputs)) (returns-clause-comparison c)
