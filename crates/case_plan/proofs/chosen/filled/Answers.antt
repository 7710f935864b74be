use Rattle.std.proofs.Common.{arith}
use Rattle.case_plan.proofs.ByParts.{vectors_count}
use Rattle.case_plan.proofs.Ranges.{few_lines}
use Rattle.case_plan.proofs.Whole.{widths, within}
use Rattle.case_plan.proofs.chosen.filled.Goals as goal

pub totals_of-sums-requires-clause-few : goal.totals_of-sums-requires-clause-few
totals_of-sums-requires-clause-few c =
    let n = vectors_count c.args.case.now c.args.curves.now c.requires.vectors in
    let m = few_lines c.args.case.now c.invariant.ensures.valid in
    omega (arith, n, m)

pub stocks_of-requires-clause-widths : goal.stocks_of-requires-clause-widths
stocks_of-requires-clause-widths c = widths c.args.case.now c.invariant.ensures.valid c.args.curves.now c.args.picks.now c.requires.vectors c.requires.vertices

pub returns-clause-fits : goal.returns-clause-fits
returns-clause-fits c = record {
  are_stocks = record {
    is_for = c.in_ok-stocks.ensures.is_for;
    limits = within c.args.case.now c.invariant.ensures.valid c.args.curves.now c.args.picks.now c.requires.vectors c.requires.vertices c.in_ok-stocks.stocks
        c.in_ok-stocks.ensures.is_for c.in_ok-stocks.ensures.vectors;
  };
  ordered = c.totals_of-sums.ensures.ordered;
  room = c.totals_of-sums.ensures.small;
  critical = c.requires.critical;
}
