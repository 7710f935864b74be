use Rattle.std.proofs.Common.{refl}
use Rattle.std.proofs.lemmas.Result.{IfOk-weaker}
use Rattle.metric_compare.specs.Shows.{ShowsComparison}
use Rattle.command_outcomes.specs.Headline.{IsTrueComparison}
use Rattle.case_figures.proofs.Public.{can_evaluate}
use Rattle.command_outcomes.proofs.Shown.{comparison_true}
use Rattle.command_outcomes.proofs.comparing.compared.Goals as goal

pub compare-requires-clause-inputs : goal.compare-requires-clause-inputs
compare-requires-clause-inputs c =
    can_evaluate 48 c.args.given.now.case c.args.given.now.stocks refl c.invariant.ensures.valid c.requires.rates.no_fault c.requires.stocks

pub returns-clause-is_true : goal.returns-clause-is_true
returns-clause-is_true c =
    IfOk-weaker c.compare.result (ShowsComparison c.args.given.now.case c.args.given.now.stocks) (IsTrueComparison c.args.given.now.case c.args.given.now.stocks)
    (comparison_true c.args.given.now.case c.args.given.now.stocks) c.compare.ensures.shows
