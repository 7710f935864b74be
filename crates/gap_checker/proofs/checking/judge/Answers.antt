use Rattle.std.proofs.Common.{refl}
use Rattle.gap_rules.proofs.Public.{by_covers, by_stocks, by_floors, by_upper, by_bound, by_none, are_trees, few_tables, are_limited, are_kept}
use Rattle.gap_checker.proofs.checking.judge.Goals as goal

pub returns-in_err-covers_kept : goal.returns-in_err-covers_kept
returns-in_err-covers_kept g c = by_covers g.S.Score.ends c.args.cert.now c.args.held.now _ c.requires.rates.no_fault c.in_err-covers_kept.field-0.0 c.from_residual.ensures.1 c.in_err-covers_kept.ensures

pub returns-in_err-cost : goal.returns-in_err-cost
returns-in_err-cost g c = by_stocks g.S.Score.ends c.args.cert.now c.args.held.now _ c.requires.rates.no_fault c.in_ok-covers_kept.ensures c.in_err-cost.field-0.0 c.from_residual-in_err-cost.ensures.1 c.in_err-cost.ensures.fault

pub floors_kept-requires-clause-trees : goal.floors_kept-requires-clause-trees
floors_kept-requires-clause-trees g c = are_trees g.S.Score.ends c.args.cert.now c.args.held.now c.in_ok-covers_kept.ensures

pub floors_kept-requires-clause-work : goal.floors_kept-requires-clause-work
floors_kept-requires-clause-work g c = few_tables g.S.Score.ends c.args.cert.now c.args.held.now c.in_ok-covers_kept.ensures

pub returns-in_err-floors_kept : goal.returns-in_err-floors_kept
returns-in_err-floors_kept g c = by_floors g.S.Score.ends c.args.cert.now c.args.held.now _ c.requires.rates.no_fault c.in_ok-covers_kept.ensures c.in_ok-cost.ensures.fault c.in_err-floors_kept.field-0.0 c.from_residual-in_err-floors_kept.ensures.1 c.in_err-floors_kept.ensures

pub upper_kept-requires-clause-limited : goal.upper_kept-requires-clause-limited
upper_kept-requires-clause-limited g c = are_limited g.S.Score.ends c.args.cert.now c.args.held.now c.in_ok-cost.ensures.fault

pub upper_kept-requires-clause-kept : goal.upper_kept-requires-clause-kept
upper_kept-requires-clause-kept g c = are_kept g.S.Score.ends c.args.cert.now c.args.held.now c.in_ok-cost.ensures.fault

pub returns-in_err-upper_kept : goal.returns-in_err-upper_kept
returns-in_err-upper_kept g c = by_upper g.S.Score.ends c.args.cert.now c.args.held.now _ c.requires.rates.no_fault c.in_ok-covers_kept.ensures c.in_ok-cost.ensures.fault c.in_ok-floors_kept.ensures c.in_err-upper_kept.field-0.0 c.from_residual-in_err-upper_kept.ensures.1 c.in_err-upper_kept.ensures

pub returns-in_err-bound_kept : goal.returns-in_err-bound_kept
returns-in_err-bound_kept g c = by_bound g.S.Score.ends c.args.cert.now c.args.held.now _ c.requires.rates.no_fault c.in_ok-covers_kept.ensures c.in_ok-cost.ensures.fault c.in_ok-floors_kept.ensures c.in_ok-upper_kept.ensures c.in_err-bound_kept.field-0.0 c.from_residual-in_err-bound_kept.ensures.1 c.in_err-bound_kept.ensures

pub returns : goal.returns
returns g c = by_none g.S.Score.ends c.args.cert.now c.args.held.now _ c.requires.rates.no_fault c.in_ok-covers_kept.ensures c.in_ok-cost.ensures.fault c.in_ok-floors_kept.ensures c.in_ok-upper_kept.ensures c.in_ok-bound_kept.ensures _ c.in_ok-cost.ensures.cost refl
