use Rattle.std.proofs.Common.{arith}
use Rattle.fleet_model.proofs.Public.{few_lines}
use Rattle.gap_rules.proofs.Public.{count_lines, by_rates}
use Rattle.gap_checker.proofs.checking.check_within.Goals as goal

pub returns-in_err-rates : goal.returns-in_err-rates
returns-in_err-rates g c = by_rates g.S.Score.ends c.args.cert.now c.args.held.now _ c.in_err-rates.field-0.0 c.from_residual.ensures.1 c.in_err-rates.ensures.fault

pub judge-requires-clause-few : goal.judge-requires-clause-few
judge-requires-clause-few g c = omega (arith, few_lines c.args.cert.now.case c.invariant.ensures.valid, count_lines c.args.cert.now.case c.line_units.result.now c.line_units.ensures)
