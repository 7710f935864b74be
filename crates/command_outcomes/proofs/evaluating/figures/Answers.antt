use Rattle.std.proofs.Common.{◌∙◌, lit<}
use Rattle.case_figures.proofs.Public.{can_evaluate}
use Rattle.command_outcomes.proofs.evaluating.figures.Goals as goal

pub evaluate_all-requires : goal.evaluate_all-requires
evaluate_all-requires g c =
    let given = c.requires.given in (
      lit< tt,
      (
        can_evaluate g.row.F c.args.given.now.case c.args.given.now.stocks c.requires.width c.invariant.ensures.valid given.rates.no_fault given.stocks,
        given.rates,
      ),
    )

pub figures_at-requires : goal.figures_at-requires
figures_at-requires g c =
    let given = c.requires.given in (
      lit< tt,
      (
        c.requires.width,
        (
          can_evaluate g.row.F c.args.given.now.case c.args.given.now.stocks c.requires.width c.invariant.ensures.valid given.rates.no_fault given.stocks,
          c.as_slice.ensures.value ∙ c.in_ok-families.ensures.ends,
        ),
      ),
    )
