use Rattle.std.proofs.lemmas.Result.{IfOk-from_err}
use Rattle.spares_words.specs.Order.{IsInRange}
use Rattle.spares_words.proofs.orders.single_order.Goals as goal

pub returns-in_err-mean-clause-range : goal.returns-in_err-mean-clause-range
returns-in_err-mean-clause-range c = IfOk-from_err c.from_residual.result IsInRange c.from_residual.ensures.0

pub returns-in_err-variance-clause-range : goal.returns-in_err-variance-clause-range
returns-in_err-variance-clause-range c = IfOk-from_err c.from_residual-in_err-variance.result IsInRange c.from_residual-in_err-variance.ensures.0

pub returns-in_err-stock-clause-range : goal.returns-in_err-stock-clause-range
returns-in_err-stock-clause-range c = IfOk-from_err c.from_residual-in_err-stock.result IsInRange c.from_residual-in_err-stock.ensures.0
