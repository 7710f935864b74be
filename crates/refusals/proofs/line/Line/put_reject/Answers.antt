use Rattle.refusals.proofs.line.Line.put_reject.Goals as goal

pub returns-in-CoverGap-clause-text : goal.returns-in-CoverGap-clause-text
returns-in-CoverGap-clause-text c = rw c.in-CoverGap.is c.put_at_row.ensures.text

pub returns-in-WorkTooLarge-clause-text : goal.returns-in-WorkTooLarge-clause-text
returns-in-WorkTooLarge-clause-text c = rw c.in-WorkTooLarge.is c.put_count.ensures.text

pub returns-in-StocksOverLimit-clause-text : goal.returns-in-StocksOverLimit-clause-text
returns-in-StocksOverLimit-clause-text c = rw c.in-StocksOverLimit.is c.put_stock_at.ensures.text

pub returns-in-OverBudget-clause-text : goal.returns-in-OverBudget-clause-text
returns-in-OverBudget-clause-text c = rw c.in-OverBudget.is c.put_count-in-OverBudget.ensures.text

pub returns-in-FloorTooHigh-clause-text : goal.returns-in-FloorTooHigh-clause-text
returns-in-FloorTooHigh-clause-text c = rw c.in-FloorTooHigh.is c.put_floor.ensures.text

pub returns-in-UpperTooLow-clause-text : goal.returns-in-UpperTooLow-clause-text
returns-in-UpperTooLow-clause-text c = rw c.in-UpperTooLow.is c.put_two.ensures.text

pub returns-in-BoundTooHigh-clause-text : goal.returns-in-BoundTooHigh-clause-text
returns-in-BoundTooHigh-clause-text c = rw c.in-BoundTooHigh.is c.put_two-in-BoundTooHigh.ensures.text
