use Rattle.std.proofs.Common.{refl, arith}
use Rattle.case_plan.proofs.ChosenFacts.{evaluable}
use Rattle.case_plan.proofs.Whole.{case_outcome, made}
use Rattle.case_plan.proofs.planning.outcome_at.Goals as goal

pub figures_with_cost-requires : goal.figures_with_cost-requires
figures_with_cost-requires c = (
  omega arith,
  (
    refl,
    record {
      stocks = c.args.chosen.stocks;
      can = evaluable c.args.case.now c.args.chosen c.invariant.ensures.valid c.requires.rates c.requires.fits;
      are = c.requires.families;
    },
  ),
)

pub line_of-requires : goal.line_of-requires
line_of-requires c = c.requires.fits.critical

pub returns-clause-chosen : goal.returns-clause-chosen
returns-clause-chosen c =
    made c.args.case.now c.args.request c.args.chosen c.of.result c.in_ok-figures.figures c.aim_of.result c.line_of.result
    c.of.ensures (c.in_ok-figures.ensures c.args.chosen.stocks (evaluable c.args.case.now c.args.chosen c.invariant.ensures.valid c.requires.rates c.requires.fits) c.requires.families) c.aim_of.ensures c.line_of.ensures

pub returns-clause-case : goal.returns-clause-case
returns-clause-case c = λ curves chosen.
    (let is = made c.args.case.now c.args.request c.args.chosen c.of.result c.in_ok-figures.figures c.aim_of.result c.line_of.result
    c.of.ensures (c.in_ok-figures.ensures c.args.chosen.stocks (evaluable c.args.case.now c.args.chosen c.invariant.ensures.valid c.requires.rates c.requires.fits) c.requires.families) c.aim_of.ensures c.line_of.ensures in
    case_outcome c.args.case.now curves c.args.request c.args.chosen _ c.invariant.ensures.valid c.requires.fits chosen is)
