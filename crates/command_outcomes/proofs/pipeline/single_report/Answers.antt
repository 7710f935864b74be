use Rattle.fleet_model.specs.Rows.{ten_thousandths}
use Rattle.command_outcomes.proofs.Shown.{model_shown}
use Rattle.command_outcomes.proofs.pipeline.single_report.Goals as goal

pub returns-clause-shows : goal.returns-clause-shows
returns-clause-shows c =
    model_shown c.interval_of-mean.result c.interval_of-variance.result c.in_ok-row.row (ten_thousandths c.args.mean.units) (ten_thousandths c.args.variance.units)
    c.args.stock c.in_ok-row.ensures.encloses c.interval_of-mean.ensures.encloses c.interval_of-variance.ensures.encloses
