use Rattle.std.proofs.lemmas.Result.{IfOk-from_err}
use Rattle.spares_words.proofs.orders.plan_terms.Goals as goal

pub returns-in_err-budget-clause-range : goal.returns-in_err-budget-clause-range
returns-in_err-budget-clause-range c = IfOk-from_err c.from_residual.result _ c.from_residual.ensures.0

pub returns-in_err-format-clause-range : goal.returns-in_err-format-clause-range
returns-in_err-format-clause-range c = IfOk-from_err c.from_residual-in_err-format.result _ c.from_residual-in_err-format.ensures.0
