use Rattle.std.proofs.Common.{arith}
use Rattle.case_plan.proofs.ChosenFacts.{evaluable}
use Rattle.case_plan.proofs.planning.evaluated_outcome.Goals as goal

pub evaluate_all-requires : goal.evaluate_all-requires
evaluate_all-requires c = (
  omega arith,
  (
    evaluable c.args.case.now c.args.chosen c.invariant.ensures.valid c.requires.rates.no_fault c.requires.fits,
    c.requires.rates,
  ),
)
