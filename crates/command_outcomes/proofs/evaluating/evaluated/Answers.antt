use Rattle.command_outcomes.proofs.Shown.{case_shown}
use Rattle.command_outcomes.proofs.evaluating.evaluated.Goals as goal

pub returns-clause-shows : goal.returns-clause-shows
returns-clause-shows c = case_shown c.args.bits c.args.given.now.case c.args.given.now.stocks c.in_ok-figures.figures c.in_ok-figures.ensures.shows
