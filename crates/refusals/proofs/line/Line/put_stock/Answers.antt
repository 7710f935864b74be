use Rattle.refusals.proofs.line.Line.put_stock.Goals as goal

pub returns-in-OverLimit-clause-text : goal.returns-in-OverLimit-clause-text
returns-in-OverLimit-clause-text c = rw c.in-OverLimit.is c.put_at_row.ensures.text

pub returns-in-Double-clause-text : goal.returns-in-Double-clause-text
returns-in-Double-clause-text c = rw c.in-Double.is c.put_at_row-in-Double.ensures.text

pub returns-in-Missing-clause-text : goal.returns-in-Missing-clause-text
returns-in-Missing-clause-text c = rw c.in-Missing.is c.put_at_pair.ensures.text
